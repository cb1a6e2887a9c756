pub mod PeerKeys
pub mod Exchanges
pub mod TransferChains
