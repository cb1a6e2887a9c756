pub use Rattle.dns_message.specs.Records
pub mod RecordText
