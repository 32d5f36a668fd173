-- What the frame laws speak of.
pub mod Same
pub mod Change
