-- The texts of replies and of faults, for crates that read scripts and write their replies.
pub use Rattle.script_texts.specs.Replies.{or_none, IsShort, HasText, answer_places, answer_text, line_fault_text, record_fault_text, obu_text}
