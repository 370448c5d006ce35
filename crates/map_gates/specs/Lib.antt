-- What the gates of the map take and leave.
pub mod Steps
