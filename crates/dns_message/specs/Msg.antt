-- A message as a plain record: its header, its questions and its three lists of resource records (RFC 1035, section 4.1).
use Rattle.std.specs.Prelude.{ℕ, List, length}
use Rattle.std.specs.List.{AllByRecursion}
use Rattle.dns_name.specs.Labels.{IsName}
use Rattle.dns_message.specs.declared.header.Header.{Header}
use Rattle.dns_message.specs.declared.header.HeaderCounts.{HeaderCounts}
use Rattle.dns_message.specs.declared.question.Question.{Question}
use Rattle.dns_message.specs.Header.{IsHeader}

-- a resource record, its data as octets (RFC 1035, section 3.2.1)
pub record ResourceRecord : Type 0 where
  pub owner : List (List ℕ)
  pub rtype : ℕ
  pub class : ℕ
  pub ttl : ℕ
  pub rdata : List ℕ

pub record Msg : Type 0 where
  pub header : Header
  pub questions : List Question
  pub answers : List ResourceRecord
  pub authority : List ResourceRecord
  pub additional : List ResourceRecord

-- how many items each section has
abbrev pub item_counts : Msg → HeaderCounts
item_counts m = record {
  qdcount = length m.questions;
  ancount = length m.answers;
  nscount = length m.authority;
  arcount = length m.additional;
}

abbrev pub HasName : Question → Type 0
HasName q = IsName q.qname

abbrev pub HasOwner : ResourceRecord → Type 0
HasOwner r = IsName r.owner

-- a message that can be written and read again: its header is in range, and its names are names
pub record IsMessage (m : Msg) : Type 0 where
  pub header : IsHeader m.header
  pub questions : AllByRecursion HasName m.questions
  pub answers : AllByRecursion HasOwner m.answers
  pub authority : AllByRecursion HasOwner m.authority
  pub additional : AllByRecursion HasOwner m.additional
