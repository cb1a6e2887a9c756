pub mod ErrorResponse
pub mod Room
pub mod SignedReplies
pub mod Refused
pub mod Layer
pub mod Clients
