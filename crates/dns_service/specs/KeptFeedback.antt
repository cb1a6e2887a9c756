-- The feedback that is kept in a result.
use Rattle.std.specs.Prelude.{Option, Some, None}
use Rattle.dns_service.specs.declared.service.ServiceFeedback.{ServiceFeedback}
use Rattle.dns_service.specs.declared.service.ServiceFeedback.TheVariants.{Reconfigure, BeginTransaction, EndTransaction}
use Rattle.dns_service.specs.declared.kept_feedback.KeptFeedback.{KeptFeedback}
use Rattle.dns_service.specs.declared.kept_feedback.KeptFeedback.TheVariants.{Nothing, NoTimeout, Timeout, Begins, Ends}

abbrev pub feedback_of : KeptFeedback → Option ServiceFeedback
feedback_of Nothing = None
feedback_of NoTimeout = Some (Reconfigure None)
feedback_of (Timeout millis) = Some (Reconfigure (Some millis))
feedback_of Begins = Some BeginTransaction
feedback_of Ends = Some EndTransaction
