use Rattle.play_core.proofs.step_line.read_words.Goals as goal

pub returns-in-Create-clause-bad : goal.returns-in-Create-clause-bad
returns-in-Create-clause-bad g c = λ bad asked. rw c.in-Create.is (c.read_create.ensures.bad bad asked)

pub returns-in-Share-clause-bad : goal.returns-in-Share-clause-bad
returns-in-Share-clause-bad g c = λ bad asked. rw c.in-Share.is (c.read_share.ensures.bad bad asked)

pub returns-in-Put-clause-bad : goal.returns-in-Put-clause-bad
returns-in-Put-clause-bad g c = λ bad asked. rw c.in-Put.is (c.read_put.ensures.bad bad asked)

pub returns-in-Look-clause-bad : goal.returns-in-Look-clause-bad
returns-in-Look-clause-bad g c = λ bad asked. rw c.in-Look.is (c.read_look.ensures.bad bad asked)

pub returns-in-View-clause-bad : goal.returns-in-View-clause-bad
returns-in-View-clause-bad g c = λ bad asked. rw c.in-View.is (c.read_view.ensures.bad bad asked)

pub returns-in-Settled-clause-bad : goal.returns-in-Settled-clause-bad
returns-in-Settled-clause-bad g c = λ bad asked. rw c.in-Settled.is (c.read_settled.ensures.bad bad asked)

pub returns-in-Change-clause-bad : goal.returns-in-Change-clause-bad
returns-in-Change-clause-bad g c = λ bad asked. rw c.in-Change.is (c.read_change.ensures.bad bad asked)

pub returns-in-Changes-clause-bad : goal.returns-in-Changes-clause-bad
returns-in-Changes-clause-bad g c = λ bad asked. rw c.in-Changes.is (c.read_changes.ensures.bad bad asked)

pub returns-in-Resize-clause-bad : goal.returns-in-Resize-clause-bad
returns-in-Resize-clause-bad g c = λ bad asked. rw c.in-Resize.is (c.read_resize.ensures.bad bad asked)

pub returns-in-Crash-clause-bad : goal.returns-in-Crash-clause-bad
returns-in-Crash-clause-bad g c = λ bad asked. rw c.in-Crash.is (c.read_crash.ensures.bad bad asked)
