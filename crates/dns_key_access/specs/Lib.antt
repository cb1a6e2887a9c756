pub mod Access
pub mod Layer
pub mod Laws
pub mod Rules
pub mod Replies
