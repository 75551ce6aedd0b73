use Rattle.rtp_extension.specs.Forms.{form_of}
use Rattle.rtp_extension.specs.Reading.{elements_of}
use Rattle.rtp_extension.specs.Reblocked.{profile_for, replaced}
use Rattle.rtp_extension.proofs.Reblocking.{new_block_reads, new_value, old_value, whole_words}
use Rattle.rtp_extension.proofs.laws.a_new_block_has_the_old_elements_but_one.Goals as goal

pub returns-clause-elements : goal.returns-clause-elements
returns-clause-elements c profile id block value = new_block_reads profile id block value

pub returns-clause-found : goal.returns-clause-found
returns-clause-found c id value es = new_value id value es

pub returns-clause-others : goal.returns-clause-others
returns-clause-others c id other value es = old_value id other value es

pub returns-clause-words : goal.returns-clause-words
returns-clause-words c profile id block value = whole_words (form_of (profile_for profile value)) (replaced id value (elements_of profile block))
