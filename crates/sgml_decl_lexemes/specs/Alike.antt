-- Two sources and two stacks of which the same is unread: what is read from the one is read from the other,
-- whatever the offsets, and whatever texts the second has besides.
use Rattle.std.specs.Prelude.{◌≡◌, ◌<◌, ◌≤◌, ℕ, suc, true, List, [], ◌∷◌, length, Some, None, is_some}
use Rattle.sgml_text.specs.declared.place.Place.{Place}
use Rattle.sgml_text.specs.declared.reason.Reason.{Reason}
use Rattle.sgml_entity.specs.Stack.{Stack}
use Rattle.sgml_entity.specs.Entities.{entity_at}
use Rattle.sgml_entity.specs.Texts.{text_of}
use Rattle.sgml_decl_lexemes.specs.declared.lexeme.Lexeme.{Lexeme}
use Rattle.sgml_decl_lexemes.specs.declared.fault.Fault.TheVariants.{Refusing, Wanting}
use Rattle.sgml_decl_lexemes.specs.Sources.{Source, unread}
use Rattle.sgml_decl_lexemes.specs.Declares.{HasLexemes, StopsBy}

-- the same entities stand on both stacks, and down to the text in which it stands the
-- same is unread of each
abbrev pub AreAlike : Source → Source → List Place → List Place → Type 0
AreAlike I J [] [] = Unit {0}
AreAlike I J (p ∷ ps) (q ∷ qs) =
    (p.entity ≡ q.entity) × (I.height ≤ suc (length ps) → unread I (p ∷ ps) ≡ unread J (q ∷ qs)) × AreAlike I J ps qs
AreAlike I J _ _ = ⊥

pub record StacksAlike (I J : Source) (s t : Stack) : Type 0 where
  pub levels : s.levels ≡ t.levels
  pub expand : s.expand ≡ t.expand
  pub spent : s.spent ≡ t.spent
  pub places : AreAlike I J s.places t.places

-- the second has all texts of entities that the first has
pub record Extends (I J : Source) : Type 0 where
  pub construct : I.construct ≡ J.construct
  pub syntax : I.syntax ≡ J.syntax
  pub entities : I.entities ≡ J.entities
  pub height : I.height ≡ J.height
  pub texts : (n : ℕ) (text : List ℕ) → is_some (entity_at I.entities n) ≡ true → text_of I.texts n ≡ Some text → text_of J.texts n ≡ Some text

-- LAW: the same lexemes, and stacks that are alike after them
pub record AlsoRead (I J : Source) (t : Stack) (ds : List Lexeme) (after : Stack) : Type 0 where
  pub stack : Stack
  pub lexemes : HasLexemes J t ds stack
  pub alike : StacksAlike I J after stack

abbrev pub AlikeIsRead : Type 0
AlikeIsRead =
    (I J : Source) (s t : Stack) (ds : List Lexeme) (after : Stack) → Extends I J → StacksAlike I J s t → 0 < length s.places → I.height ≡ length s.places
    → HasLexemes I s ds after → AlsoRead I J t ds after

-- the same refusal; a text that is wanted may be among those of the second
abbrev pub AlikeIsRefused : Type 0
AlikeIsRefused =
    (I J : Source) (s t : Stack) (r : Reason) → Extends I J → StacksAlike I J s t → 0 < length s.places → I.height ≡ length s.places
    → StopsBy I s (Refusing r) → StopsBy J t (Refusing r)

-- the same text is wanted, where the second hasn't it either
abbrev pub AlikeIsWanted : Type 0
AlikeIsWanted =
    (I J : Source) (s t : Stack) (n : ℕ) → Extends I J → StacksAlike I J s t → 0 < length s.places → I.height ≡ length s.places
    → text_of J.texts n ≡ None → StopsBy I s (Wanting n) → StopsBy J t (Wanting n)

-- LAWS of the stacks: they have as many texts, and the same is unread at their tops
abbrev pub AlikeAreAsMany : Type 0
AlikeAreAsMany = (I J : Source) (s t : Stack) → StacksAlike I J s t → length s.places ≡ length t.places

abbrev pub AlikeAreUnread : Type 0
AlikeAreUnread =
    (I J : Source) (s t : Stack) → StacksAlike I J s t → 0 < length s.places → I.height ≤ length s.places → unread I s.places ≡ unread J t.places
