pub mod Likeness
pub mod Replies
pub mod GoAlike
