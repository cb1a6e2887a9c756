use Rattle.std.proofs.Common.{◌∙◌, rules}
use Rattle.std.specs.Prelude.{codes}
use Rattle.http_header.specs.FieldValue.{plain_value}
use Rattle.http_server.specs.Response.{fields_of}
use Rattle.dns_metrics.proofs.Added.{field_added}
use Rattle.dns_metrics.proofs.page.give.Goals as goal

pub returns : goal.returns
returns c = record {
  status = search rules;
  headers =
      c.in_ok-add_header.ensures.headers
      ∙ field_added (fields_of c.args.response.now) c.from_static.result (codes "content-type") c.from_static-format.result
      (plain_value (codes "text/plain; version=0.0.4; charset=utf-8")) c.from_static.ensures c.from_static-format.ensures;
  body = search rules;
}
