-- The response code (RFC 1035, section 4.1.1) and the text of a service's error.
use Rattle.std.specs.Prelude.{ℕ, List, codes}
use Rattle.dns_service.specs.declared.service.ServiceError.{ServiceError}
use Rattle.dns_service.specs.declared.service.ServiceError.TheVariants.{FormatError, InternalError, NotImplemented, Refused}

abbrev pub rcode_of : ServiceError → ℕ
rcode_of FormatError = 1
rcode_of InternalError = 2
rcode_of NotImplemented = 4
rcode_of Refused = 5

abbrev pub service_error_text : ServiceError → List ℕ
service_error_text FormatError = codes "Format error"
service_error_text InternalError = codes "Internal error"
service_error_text NotImplemented = codes "Not implemented"
service_error_text Refused = codes "Refused"
