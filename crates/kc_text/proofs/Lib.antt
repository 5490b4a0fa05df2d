pub mod Complete
pub mod LinesComplete
pub mod LinesSound
pub mod Pieces
pub mod RawLines
pub mod Sound
pub mod Steps
