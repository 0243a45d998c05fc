use Rattle.segment_core.proofs.scanner.Scanner.end.Goals as goal

pub returns-clause-answer : goal.returns-clause-answer
returns-clause-answer g c = λ image fed. (c.in_ok-scanned.ensures.answer image fed).0
