-- Which page a request asks for, and how it is answered (RFC 9110, sections 9.1, 10.2.1, 15.5.5 and 15.5.6).
use Rattle.std.specs.Prelude.{◌≡◌, ◌⊎◌, ℕ, List, [], ◌∷◌, ◌++◌, ◌||◌, if◌then◌else◌, codes}
use Rattle.std.specs.Str.{bytes_eq}
use Rattle.http.specs.declared.request.Request.{Request}
use Rattle.http.specs.Request.{head_of}
use Rattle.http_uri.specs.Uri.{uri_path}
use Rattle.http1.specs.Fields.{Header}
use Rattle.http_server.specs.declared.response.Response.{Response}
use Rattle.http_server.specs.Response.{IsResponse, fields_of}
use Rattle.dns_metrics.specs.declared.family.Family.{Family}
use Rattle.dns_metrics.specs.declared.page.Page.{Page}
use Rattle.dns_metrics.specs.declared.page.Page.TheVariants.{Metrics, NotAllowed, NotFound}
use Rattle.dns_metrics.specs.Exposition.{exposition_text}

-- the metrics are at /metrics, for GET and HEAD
abbrev pub page_of : List ℕ → List ℕ → Page
page_of method path =
    if bytes_eq path (codes "/metrics") then
    (if bytes_eq method (codes "GET") || bytes_eq method (codes "HEAD") then Metrics else NotAllowed)
    else NotFound

-- the page that a request asks for
abbrev pub asked_page : Request (List ℕ) → Page
asked_page r = page_of (head_of r).method (uri_path (head_of r).uri)

-- each answer closes its connection
abbrev pub closing : Header
closing = (codes "connection", codes "close")

-- the text of families, in its format
abbrev pub text_format : Header
text_format = (codes "content-type", codes "text/plain; version=0.0.4; charset=utf-8")

-- the methods that are allowed
abbrev pub allowed : Header
allowed = (codes "allow", codes "GET, HEAD")

-- a response goes on by this field and this text
pub record Extends (more : Header) (text : List ℕ) (old new : Response) : Type 0 where
  pub status : new.status ≡ old.status
  pub headers : fields_of new ≡ fields_of old ++ more ∷ []
  pub body : new.body.items ≡ old.body.items ++ text

-- a response has another status, and nothing else
pub record HasStatus (code : ℕ) (old new : Response) : Type 0 where
  pub status : new.status ≡ code
  pub headers : fields_of new ≡ fields_of old
  pub body : new.body.items ≡ old.body.items

-- it goes on by the text of families; if they can't be had, it is 500 (RFC 9110, section 15.6.1)
abbrev pub IsGiven : Response → Response → Type 0
IsGiven old new = ((families : List Family) × Extends text_format (exposition_text families) old new) ⊎ HasStatus 500 old new

-- how each page is answered
abbrev pub IsPage : Page → Response → Type 0
IsPage Metrics r =
    ((families : List Family) × IsResponse 200 (closing ∷ text_format ∷ []) (exposition_text families) r)
    ⊎ IsResponse 500 (closing ∷ []) [] r
IsPage NotAllowed r = IsResponse 405 (closing ∷ allowed ∷ []) [] r
IsPage NotFound r = IsResponse 404 (closing ∷ []) [] r

abbrev pub IsAnswered : Request (List ℕ) → Response → Type 0
IsAnswered request r = IsPage (asked_page request) r
