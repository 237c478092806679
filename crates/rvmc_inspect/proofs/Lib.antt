pub mod Lines
pub mod Sends
pub mod ByteLines
pub mod Walking
pub mod Live
pub mod Below
