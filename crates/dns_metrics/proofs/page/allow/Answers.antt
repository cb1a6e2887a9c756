use Rattle.std.proofs.Common.{◌∙◌}
use Rattle.std.specs.Prelude.{codes}
use Rattle.http_header.specs.FieldValue.{plain_value}
use Rattle.http_server.specs.Response.{fields_of}
use Rattle.dns_metrics.proofs.Added.{field_added}
use Rattle.dns_metrics.proofs.page.allow.Goals as goal

pub returns-clause-fields : goal.returns-clause-fields
returns-clause-fields c =
    c.in_ok-add_header.ensures.headers
    ∙ field_added (fields_of c.args.response.now) c.from_static.result (codes "allow") c.from_static-methods.result
    (plain_value (codes "GET, HEAD")) c.from_static.ensures c.from_static-methods.ensures
