pub mod BitMaps
pub mod NsecData
