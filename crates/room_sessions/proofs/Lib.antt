pub mod Rising
pub mod Choosing
pub mod Texts
pub mod RoomReplies
pub mod Making
pub mod Beginning
