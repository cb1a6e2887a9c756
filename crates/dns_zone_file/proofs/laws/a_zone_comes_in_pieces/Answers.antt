use Rattle.dns_zone_file.proofs.Pieces.{pieces, whole_text}
use Rattle.dns_zone_file.proofs.laws.a_zone_comes_in_pieces.Goals as goal

pub returns-clause-more : goal.returns-clause-more
returns-clause-more c = λ z a b. pieces a b z.scan z.draft

pub returns-clause-whole : goal.returns-clause-whole
returns-clause-whole c = λ origin text. whole_text origin text
