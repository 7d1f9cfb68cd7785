pub mod Tones
pub mod Sounding
pub mod Sound
pub mod Wav
pub mod Refusals
