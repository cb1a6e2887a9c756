-- Whether a request is in a transaction.
use Rattle.std.specs.Prelude.{Bool, true, false}
use Rattle.dns_service.specs.declared.invoker.InvokerStatus.{InvokerStatus}
use Rattle.dns_service.specs.declared.invoker.InvokerStatus.TheVariants.{InTransaction}

abbrev pub is_in_transaction : InvokerStatus → Bool
is_in_transaction InTransaction = true
is_in_transaction _ = false
