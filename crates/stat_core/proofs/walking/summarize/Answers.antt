use Rattle.disk_core.specs.Calls.{bytes_of}
use Rattle.stat_core.proofs.OfFrames.{answer_of_frames}
use Rattle.stat_core.proofs.walking.summarize.Goals as goal

pub returns-clause-frames : goal.returns-clause-frames
returns-clause-frames g c model = answer_of_frames (bytes_of (g.D.Disk.states c.args.disk.now)) c.read_frames.result (c.read_frames.ensures.is model)
