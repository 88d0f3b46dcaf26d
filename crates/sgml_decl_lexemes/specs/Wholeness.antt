-- WHETHER THE END IS REACHED of what is read, where it is read no further: the part that stands there is
-- the one that ends it, and is refused for what was read before (9.5, 10).
use Rattle.std.specs.Prelude.{ℕ, zero, suc, Bool, true, false, ◌<◌, ◌≡◌, length, Result, Ok, Err, if◌then◌else◌}
use Rattle.sgml_text.specs.declared.reason.Reason.{Reason}
use Rattle.sgml_entity.specs.Stack.{Stack}
use Rattle.sgml_decl_parts.specs.declared.ends.Construct.{Construct}
use Rattle.sgml_decl_parts.specs.declared.part.Part.{Part}
use Rattle.sgml_decl_parts.specs.declared.part.PartFault.{PartFault}
use Rattle.sgml_decl_parts.specs.Parts.{part_at}
use Rattle.sgml_decl_lexemes.specs.declared.fault.Fault.{Fault}
use Rattle.sgml_decl_lexemes.specs.declared.fault.Fault.TheVariants.{Refusing}
use Rattle.sgml_decl_lexemes.specs.Sources.{Source, unread}
use Rattle.sgml_decl_lexemes.specs.Readings.{State, EndsWithQuote, ahead, after, here, next_part, closes, start}
use Rattle.sgml_decl_lexemes.specs.Declares.{Asked, Own, Whole, Growing, Bad, own, source, StopsBy}
use Rattle.sgml_decl_lexemes.specs.Alike.{StacksAlike, Extends}
use Rattle.sgml_decl_lexemes.specs.Reads.{left}

abbrev pub is_end : Construct → Result Part PartFault → Bool
is_end c (Ok part) = closes c part
is_end c (Err fault) = false

-- the part that stands next is one that ends it, whether it is refused or not
abbrev pub stands_end : Source → State → Bool
stands_end I t = is_end I.construct (part_at I.syntax.names I.syntax.general_fold (here I t) (ahead I t))

-- READING ON, for so many parts at most
abbrev pub end_unless : Source → State → (State → Bool) → Result Part Fault → Bool
end_unless I t go_on (Err fault) = stands_end I t
end_unless I t go_on (Ok part) = if closes I.construct part then true else go_on (after I (ahead I t) part t)

abbrev pub reaches_end : ℕ → Source → State → Bool
reaches_end zero I t = false
reaches_end (suc n) I t = end_unless I t (λ u. reaches_end n I u) (next_part I t)

-- as many as there are
abbrev pub is_whole_in : Source → Stack → Bool
is_whole_in I s = reaches_end (suc (left I (start I s).stack)) I (start I s)

-- of what is asked; its own text is to be all there, and of SGML characters
abbrev pub reaches_by : Asked → Own → Bool
reaches_by q (Whole own) = is_whole_in (source q own) q.stack
reaches_by q Growing = false
reaches_by q (Bad why) = false

abbrev pub is_end_reached : Asked → Bool
is_end_reached q = reaches_by q (own q)

-- LAW: where the same is unread, and there are the same texts or more, a refusal stands at the end of
-- both or of neither.
abbrev pub AlikeIsWhole : Type 0
AlikeIsWhole =
    (I J : Source) (s t : Stack) (r : Reason) → Extends I J → StacksAlike I J s t → 0 < length s.places → I.height ≡ length s.places → EndsWithQuote I.construct (unread I s.places)
    → StopsBy I s (Refusing r) → is_whole_in J t ≡ is_whole_in I s
