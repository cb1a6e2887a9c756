pub use Rattle.dns_record_text.specs.RecordText
pub mod MessageText
