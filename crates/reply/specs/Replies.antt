-- The kinds of replies, each from its data. Document 01, "What the box reads": "codes 1, 3, 4, 5, 7, 8, A are read as kinds of their own,
-- Get, Set and Async replies holding a status of their own (good, unknown id, not supported, parameter error)". Assumes nothing.
use Rattle.std.specs.Prelude.{ℕ, cond, List, length, take, drop, get_or, eqb, ltb, Some, None, Result, Ok, Err}
use Rattle.paper.specs.Numbers as paper
use Rattle.paper.specs.declared.Refusal.{Refusal}
use Rattle.endian.specs.Numbers.{from_little}
use Rattle.reply.specs.Answers.{Parsed, Heeded}
use Rattle.reply.specs.declared.Status.{Status}
use Rattle.reply.specs.declared.Reply.{Reply}

-- "flags 00, 01, 02 or 04"
abbrev pub flag_of : Status → ℕ
flag_of Status.Good = 0
flag_of Status.UnknownId = 1
flag_of Status.NotSupported = 2
flag_of Status.ParameterError = 4

-- "otherwise 6"
abbrev pub malformed : {A : Type 0} → Result A Refusal
malformed = Err paper.malformed

-- the status with this flag
unfoldable pub status_of : ℕ → Result Status Refusal
status_of flag =
    cond (eqb flag (flag_of Status.Good)) (Ok Status.Good)
    (cond (eqb flag (flag_of Status.UnknownId)) (Ok Status.UnknownId)
    (cond (eqb flag (flag_of Status.NotSupported)) (Ok Status.NotSupported)
    (cond (eqb flag (flag_of Status.ParameterError)) (Ok Status.ParameterError)
    malformed)))

-- an id with a status
abbrev pub fronted : ℕ → Result Status Refusal → Result (Status × ℕ) Refusal
fronted id (Ok status) = Ok (status, id)
fronted id (Err refusal) = Err refusal

-- "at least three": an id of two bytes and the flags
unfoldable pub front : List ℕ → Result (Status × ℕ) Refusal
front bytes = cond (ltb (length bytes) 3) malformed (fronted (from_little (take 2 bytes)) (status_of (get_or bytes 2 0)))

-- "3 one byte"
unfoldable pub named : List ℕ → Result ℕ Refusal
named bytes = cond (eqb (length bytes) 1) (Ok (get_or bytes 0 0)) malformed

-- "4 and 5 two bytes"
unfoldable pub numbered : List ℕ → Result ℕ Refusal
numbered bytes = cond (eqb (length bytes) 2) (Ok (from_little bytes)) malformed

-- a reply of some kind, from data that are read as such
abbrev pub kinded : {A : Type 0} → (A → Reply) → Result A Refusal → Parsed
kinded kind (Ok read) = Ok (kind read)
kinded kind (Err refusal) = Err refusal

-- "7, 8, A at least three, flags 00, 01, 02 or 04"
abbrev pub telling : (Status → ℕ → Reply) → List ℕ → Parsed
telling kind bytes = kinded (λ (f : Status × ℕ). kind f.0 f.1) (front bytes)

abbrev pub naming : List ℕ → Parsed
naming bytes = kinded Reply.Unknown (named bytes)

abbrev pub numbering : (ℕ → Reply) → List ℕ → Parsed
numbering kind bytes = kinded kind (numbered bytes)

-- the value of a Get, Set or Async reply: the rest of the data, after the first three bytes, under every status
abbrev pub rest : List ℕ → List ℕ
rest bytes = drop 3 bytes

-- a reply about the id that is due has a status; "all other replies [..] keep waiting"
abbrev pub about : ℕ → Reply → Heeded
about due Reply.Done = None
about due (Reply.Unknown command) = None
about due (Reply.Error code) = None
about due (Reply.Ping version) = None
about due (Reply.Get status id) = cond (eqb id due) (Some status) None
about due (Reply.Set status id) = cond (eqb id due) (Some status) None
about due (Reply.Async status id) = cond (eqb id due) (Some status) None

-- "and refused frames included"
abbrev pub about_parsed : ℕ → Parsed → Heeded
about_parsed due (Ok reply) = about due reply
about_parsed due (Err refusal) = None
