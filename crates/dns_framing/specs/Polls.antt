-- Requests that are polled, for the crates above.
pub use Rattle.dns_service.specs.declared.polled.PolledRequest.{PolledRequest}
