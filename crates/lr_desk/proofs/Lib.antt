mod Alone
pub mod Answering
mod Carrying
mod Causing
mod Commanding
mod Doing
mod Gathering
mod Imaging
mod Keeping
mod Logs
mod Meeting
mod Sharing
mod Telling
mod Viewing
mod Walking
