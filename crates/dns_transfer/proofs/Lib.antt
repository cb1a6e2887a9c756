pub mod TransferLaws
pub mod PackLaws
pub mod TransactionLaws
