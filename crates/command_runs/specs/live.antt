-- A live input: what its lines mean, what answers them, and the laws of it.
pub mod Answering
pub mod Laws
pub mod Lived
pub mod Replies
pub mod Text
