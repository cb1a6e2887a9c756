-- The text of metrics (Prometheus, "Exposition formats", text-based format, version 0.0.4).
use Rattle.std.specs.Prelude.{ℕ, List, [], ◌∷◌, ◌++◌, Bool, true, false, ◌&&◌, if◌then◌else◌, codes, decimal, nat_eq, string_bytes}
use Rattle.std.specs.List.{flat_map}
use Rattle.dns_metrics.specs.declared.family.Label.{Label}
use Rattle.dns_metrics.specs.declared.family.Sample.{Sample}
use Rattle.dns_metrics.specs.declared.family.Family.{Family}
use Rattle.dns_metrics.specs.declared.family.MetricKind.{MetricKind}
use Rattle.dns_metrics.specs.declared.family.MetricKind.TheVariants.{Counter, Gauge}

-- a backslash and a line feed are escaped, and in the value of a label a double quote too
abbrev pub escaped_octet : Bool → ℕ → List ℕ
escaped_octet is_value c =
    if nat_eq c 92 then 92 ∷ 92 ∷ []
    else if nat_eq c 10 then 92 ∷ 110 ∷ []
    else if nat_eq c 34 && is_value then 92 ∷ 34 ∷ []
    else c ∷ []

abbrev pub escaped_text : Bool → List ℕ → List ℕ
escaped_text is_value text = flat_map (escaped_octet is_value) text

-- NAME="VALUE"
abbrev pub label_text : Label → List ℕ
label_text l = string_bytes l.name ++ (61 ∷ 34 ∷ (escaped_text true (string_bytes l.value) ++ 34 ∷ []))

abbrev pub behind_comma : Label → List ℕ
behind_comma l = 44 ∷ label_text l

-- {LABEL,LABEL}, or nothing if there is none
abbrev pub labels_text : List Label → List ℕ
labels_text [] = []
labels_text (l ∷ ls) = 123 ∷ (label_text l ++ (flat_map behind_comma ls ++ 125 ∷ []))

-- NAME{LABELS} VALUE
abbrev pub sample_text : List ℕ → Sample → List ℕ
sample_text name s = name ++ (labels_text s.labels.items ++ (32 ∷ (decimal s.value ++ 10 ∷ [])))

abbrev pub kind_text : MetricKind → List ℕ
kind_text Counter = codes "counter"
kind_text Gauge = codes "gauge"

-- WORD NAME TEXT
abbrev pub line_text : List ℕ → List ℕ → List ℕ → List ℕ
line_text word name text = word ++ (name ++ (32 ∷ (escaped_text false text ++ 10 ∷ [])))

-- the line of its help text, that of what it is, and its samples
abbrev pub family_text : Family → List ℕ
family_text f =
    let name = string_bytes f.name in
    line_text (codes "# HELP ") name (string_bytes f.help)
    ++ (line_text (codes "# TYPE ") name (kind_text f.kind) ++ flat_map (sample_text name) f.samples.items)

abbrev pub exposition_text : List Family → List ℕ
exposition_text fs = flat_map family_text fs
