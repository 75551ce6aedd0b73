use Rattle.forwarding_laws.proofs.PassedFrames.{epochs_frames_count, has_passed_in_words, key_passed_in_words}
use Rattle.forwarding_laws.proofs.forwarding.passed_frames_of_the_epoch_count.Goals as goal

pub returns-clause-frames : goal.returns-clause-frames
returns-clause-frames g c = epochs_frames_count

pub returns-clause-number : goal.returns-clause-number
returns-clause-number g c = has_passed_in_words

pub returns-clause-key : goal.returns-clause-key
returns-clause-key g c = key_passed_in_words
