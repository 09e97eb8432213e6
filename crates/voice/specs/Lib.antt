pub mod Stereo
pub mod Voice
pub mod Frame
pub mod Clip
