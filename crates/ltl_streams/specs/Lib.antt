pub mod Printing
pub mod Sending
pub mod StageView
pub mod Streams
