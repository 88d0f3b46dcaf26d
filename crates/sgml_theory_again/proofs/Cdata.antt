-- What is spelled in CDATA content: characters, record ends and starts, ends of elements and of texts.
use Rattle.std.proofs.Common.{◌≡◌, ℕ, Bool, true, false, ◌==◌, ◌&&◌, ◌+◌, List, [], ◌∷◌, Option, None, Some, Result, Ok, Err, length, take, drop, unwrap_or, refl, sym, ap, ◌∙◌, subst, if◌then◌else◌}
use Rattle.std.specs.List.{list_all, list_any}
use Rattle.sgml_theory_full.specs.text.Characters.{is_sgml_character}
use Rattle.sgml_theory_full.specs.text.declared.reason.Reason.{Reason}
use Rattle.sgml_theory_full.specs.text.declared.reason.Reason.TheVariants as reason
use Rattle.sgml_theory_full.specs.records.Facts.{takes_end}
use Rattle.sgml_theory_full.specs.syntax.declared.syntax.Syntax.{Syntax}
use Rattle.sgml_theory_full.specs.delim.declared.delim.Mode.{Mode}
use Rattle.sgml_theory_full.specs.delim.declared.delim.Mode.TheVariants as mode
use Rattle.sgml_theory_full.specs.delim.declared.delim.Delim.TheVariants as delim
use Rattle.sgml_theory_full.specs.delim.Tables.{stands}
use Rattle.sgml_theory_full.specs.markup.declared.kinds.TokenKind.{TokenKind}
use Rattle.sgml_theory_full.specs.markup.declared.kinds.TokenKind.TheVariants as kind
use Rattle.sgml_theory_full.specs.markup.declared.kinds.Form.TheVariants as form
use Rattle.sgml_theory_full.specs.markup.Ends.{end_of}
use Rattle.sgml_theory_full.specs.markup.Forms.{before, begins_tagc, last_byte, unclosed, parts_of, if_tag, judged_tag, judged_end_tag, judged}
use Rattle.sgml_theory_full.specs.markup.Tags.{is_tag, wrong_number_in, wrong_length_in}
use Rattle.sgml_theory_full.specs.markup.declared.kinds.TagState.TheVariants.{ElementName}
use Rattle.sgml_theory_full.specs.scan.declared.state.Scanned.{Scanned}
use Rattle.sgml_theory_full.specs.scan.declared.state.Scanned.TheVariants.{Token, NeedMore, BadToken}
use Rattle.sgml_theory_full.specs.scan.declared.classes.Run.TheVariants as run
use Rattle.sgml_theory_full.specs.scan.declared.classes.Class.TheVariants as class
use Rattle.sgml_theory_full.specs.scan.Classes.{class_in_content, is_data}
use Rattle.sgml_theory_full.specs.scan.Tokens.{of_judged, closed}
use Rattle.sgml_theory_full.specs.theory_reading.Names.{Name, Text}
use Rattle.sgml_theory_full.specs.theory_reading.Pieces.{Piece, Kind, Char, Re, Rs, End, EntityEnd, Finish, How, Short, Net}
use Rattle.sgml_theory_full.specs.theory_reading.Facets.{Stage, BeforeSyntax, AtBeginning, BeforeDoctype, InSubset, AfterSubset}
use Rattle.sgml_theory_full.specs.theory_reading.ShortTags.{empty_end_type, net_in_force, net_type}
use Rattle.sgml_theory_full.specs.theory_reading.Unread.{Outside, Rest, Standing}
use Rattle.sgml_theory_full.specs.theory_reading.State.{State}
use Rattle.sgml_theory_full.specs.theory_reading.Characters.{has_text, separator_kind, facts_in}
use Rattle.sgml_theory_full.specs.theory_spelling.Stacked.{Stacked, stacked}
use Rattle.sgml_theory_full.specs.theory_spelling.Sized.{sized, sized_ok, unless_reason}
use Rattle.sgml_theory_full.specs.theory_spelling.Tokens.{character_token, by_string, string_at, by_delimiter, token_at}
use Rattle.sgml_theory_full.specs.theory_spelling.Places.{section_mode, in_doctype, mode_at, map_at, is_map, in_section}
use Rattle.sgml_theory_full.specs.theory_spelling.Content.{first_of, character_kind, ending_of, content_piece}
use Rattle.sgml_theory_full.specs.theory_spelling.Decided.{is_early_end}
use Rattle.sgml_theory_full.specs.theory_spelling.Spelled.{type_end, document_end, entity_end, piece_in, by_token, token_here, by_stage, spelled_in, spelled_of, spelled}
use Rattle.sgml_theory_full.specs.Raw.{begins_end_tag}
use Rattle.sgml_theory_full.specs.Conforming.{mode_in}
use Rattle.sgml_theory_full.proofs.Plain.{if-true}
use Rattle.sgml_theory_full.proofs.RawCharacters.{raw-kind}
use Rattle.sgml_theory_full.proofs.RawParts.{raw-text}
use Rattle.sgml_theory_again.specs.Content.{IsInInstance}
use Rattle.sgml_theory_again.proofs.Texts.{true-false}

-- THE TOKENS: one character that begins no end-tag, a record end or start, and what ends an element
pub record OneCharacter (s : Syntax) (bytes : Text) (n : ℕ) : Type 0 where
  pub byte : ℕ
  pub rest : Text
  pub are : bytes ≡ byte ∷ rest
  pub one : n ≡ 1
  pub is_character : is_data byte ≡ true
  pub no_tag : begins_end_tag s bytes ≡ false

abbrev TokenIs : Syntax → Text → TokenKind → ℕ → Type 0
TokenIs s bytes kind.Chars n = OneCharacter s bytes n
TokenIs s bytes kind.Re n = Unit {0}
TokenIs s bytes kind.Rs n = Unit {0}
TokenIs s bytes kind.EndTag n = Unit {0}
TokenIs s bytes kind.EmptyEnd n = Unit {0}
TokenIs s bytes kind.Net n = Unit {0}
TokenIs s bytes _ n = ⊥

abbrev ScannedIs : Syntax → Text → Scanned → Type 0
ScannedIs s bytes (Token x) = TokenIs s bytes x.kind x.length
ScannedIs s bytes NeedMore = Unit {0}
ScannedIs s bytes (BadToken r) = Unit {0}

-- an end-tag
abbrev EndKind : Result TokenKind Reason → Type 0
EndKind (Ok kind.EndTag) = Unit {0}
EndKind (Ok kind.EmptyEnd) = Unit {0}
EndKind (Ok k) = ⊥
EndKind (Err r) = Unit {0}

if-end : (t : Bool) (x y : Result TokenKind Reason) → EndKind x → EndKind y → EndKind (if t then x else y)
if-end true x y p q = p
if-end false x y p q = q

tag-end : (good number length : Bool) → EndKind (if_tag good number length kind.EndTag)
tag-end good number length = if-end good _ _ (if-end number _ _ tt (if-end length _ _ tt tt)) tt

end-judged : (s : Syntax) (markup : List ℕ) → EndKind (judged s form.EndTag markup)
end-judged s markup =
    if-end (list_all is_sgml_character markup) _ _
    (if-end (begins_tagc (drop 2 markup)) (Ok kind.EmptyEnd) (judged_end_tag s markup) tt
    (if-end (last_byte markup == 47) (Err reason.TagSyntax) (judged_tag s true 2 kind.EndTag markup) tt
    (tag-end (is_tag s true 2 (ElementName 2) (drop 2 (unclosed markup))) (list_any (wrong_number_in s markup) (parts_of s true 2 markup))
    (list_any (wrong_length_in s markup) (parts_of s true 2 markup)))))
    tt

of-end : (s : Syntax) (bytes : Text) (n : ℕ) (x : Result TokenKind Reason) → EndKind x → ScannedIs s bytes (of_judged n x)
of-end s bytes n (Ok kind.EndTag) e = tt
of-end s bytes n (Ok kind.EmptyEnd) e = tt
of-end s bytes n (Ok _) e = absurd e
of-end s bytes n (Err r) e = tt

if-scanned : (s : Syntax) (bytes : Text) (t : Bool) (x y : Scanned) → ScannedIs s bytes x → ScannedIs s bytes y → ScannedIs s bytes (if t then x else y)
if-scanned s bytes true x y p q = p
if-scanned s bytes false x y p q = q

closed-end : (s : Syntax) (bytes : Text) (o : Option ℕ) → ScannedIs s bytes (closed s true bytes form.EndTag o)
closed-end s bytes None = if-scanned s bytes (list_all is_sgml_character bytes) (BadToken reason.Unclosed) (BadToken reason.NonSgml) tt tt
closed-end s bytes (Some n) =
    let own = take (before form.EndTag + n) bytes in
    of-end s bytes (before form.EndTag + n) (judged s form.EndTag own) (end-judged s own)

-- where no delimiter begins
plain-token : (s : Syntax) (b : ℕ) (bytes : Text) → begins_end_tag s (b ∷ bytes) ≡ false → ScannedIs s (b ∷ bytes) (character_token (class_in_content b))
plain-token s b bytes none = by (is_data b) refl
  where
    others : (t u : Bool) → ScannedIs s (b ∷ bytes) (character_token (if t then class.Single kind.Re else (if u then class.Single kind.Rs else class.NonSgml)))
    others true u = tt
    others false true = tt
    others false false = tt

    by : (t : Bool) → is_data b ≡ t
        → ScannedIs s (b ∷ bytes) (character_token (if t then class.Stretch run.Chars else (if b == 13 then class.Single kind.Re else (if b == 10 then class.Single kind.Rs else class.NonSgml))))
    by true e = record { byte = b; rest = bytes; are = refl; one = refl; is_character = e; no_tag = none }
    by false e = others (b == 13) (b == 10)

no-string : (maps : Bool) (bytes : Text) → string_at (maps && false) bytes ≡ None
no-string true bytes = refl
no-string false bytes = refl

same-test : (s : Syntax) (net : Bool) (bytes : Text) → stands s mode.Cdt net delim.Etago bytes ≡ begins_end_tag s bytes
unfolding stands
same-test s net bytes = refl

token-is : (s : Syntax) (net maps : Bool) (b : ℕ) (bytes : Text) → ScannedIs s (b ∷ bytes) (token_at s (record { mode = mode.Cdt; net = net; maps = maps }) (b ∷ bytes))
unfolding token_at
token-is s net maps b bytes =
    by (stands s mode.Cdt net delim.Etago (b ∷ bytes)) (stands s mode.Cdt net delim.Net (b ∷ bytes)) (sym (same-test s net (b ∷ bytes)))
  where
    by : (t u : Bool) → begins_end_tag s (b ∷ bytes) ≡ t
        → ScannedIs s (b ∷ bytes)
        (by_delimiter s (record { mode = mode.Cdt; net = net; maps = maps }) (b ∷ bytes) (if t then Some delim.Etago else (if u then Some delim.Net else None)))
    by true u e = closed-end s (b ∷ bytes) (end_of s form.EndTag true (drop (before form.EndTag) (b ∷ bytes)))
    by false true e = tt
    by false false e = subst (λ o. ScannedIs s (b ∷ bytes) (by_string mode.Cdt (b ∷ bytes) o)) (sym (no-string maps (b ∷ bytes))) (plain-token s b bytes e)

-- THE PIECES
abbrev pub KindInCdata : Syntax → Text → ℕ → Kind → Type 0
KindInCdata s bytes n (Char b) = (rest : Text) × (bytes ≡ b ∷ rest) × (n ≡ 1) × (is_data b ≡ true) × (begins_end_tag s bytes ≡ false)
KindInCdata s bytes n (Re live) = Unit {0}
KindInCdata s bytes n Rs = Unit {0}
KindInCdata s bytes n (End name how) = Unit {0}
KindInCdata s bytes n EntityEnd = Unit {0}
KindInCdata s bytes n Finish = Unit {0}
KindInCdata s bytes n kind = ⊥

abbrev ResultIs : Syntax → Text → Result Piece Reason → Type 0
ResultIs s bytes (Ok p) = KindInCdata s bytes p.size p.kind
ResultIs s bytes (Err r) = Unit {0}

if-result : (s : Syntax) (bytes : Text) (t : Bool) (x y : Result Piece Reason) → ResultIs s bytes x → ResultIs s bytes y → ResultIs s bytes (if t then x else y)
if-result s bytes true x y p q = p
if-result s bytes false x y p q = q

end-kind : (s : State) → has_text s ≡ true → separator_kind s 13 ≡ Re (takes_end (facts_in s.record_ends))
unfolding separator_kind
end-kind s text = if-true (has_text s) (Re (takes_end (facts_in s.record_ends))) _ text

start-kind : (s : State) → has_text s ≡ true → separator_kind s 10 ≡ Rs
unfolding separator_kind
start-kind s text = if-true (has_text s) Rs _ text

ending-is : (s : Syntax) (bytes : Text) (n : ℕ) (how : How) (o : Option Name) → ResultIs s bytes (sized_ok n (ending_of how o))
ending-is s bytes n how None = tt
ending-is s bytes n how (Some name) = tt

character-is : (s : State) (bytes : Text) (n : ℕ) → has_text s ≡ true → OneCharacter s.context.doctype.syntax bytes n
    → ResultIs s.context.doctype.syntax bytes (Ok (sized (length (take n bytes)) (character_kind s mode.Cdt (first_of (take n bytes)))))
character-is s bytes n text c =
    let syntax = s.context.doctype.syntax in
    let none = subst (λ bs. begins_end_tag syntax bs ≡ false) c.are c.no_tag in
    let first : ResultIs syntax (c.byte ∷ c.rest) (Ok (sized 1 (character_kind s mode.Cdt c.byte))) =
    subst (λ k. KindInCdata syntax (c.byte ∷ c.rest) 1 k) (sym (raw-kind s c.byte text c.is_character)) (c.rest, refl, refl, c.is_character, none) in
    subst (λ bs. ResultIs syntax bs (Ok (sized (length (take n bs)) (character_kind s mode.Cdt (first_of (take n bs)))))) (sym c.are)
    (subst (λ i. ResultIs syntax (c.byte ∷ c.rest) (Ok (sized (length (take i (c.byte ∷ c.rest))) (character_kind s mode.Cdt (first_of (take i (c.byte ∷ c.rest))))))) (sym c.one) first)

content-is : (outside : Outside) (s : State) (t : Stacked) (bytes : Text) (k : TokenKind) (n : ℕ) → has_text s ≡ true → TokenIs s.context.doctype.syntax bytes k n
    → ResultIs s.context.doctype.syntax bytes (content_piece outside s t mode.Cdt k (take n bytes))
unfolding content_piece
content-is outside s t bytes kind.Chars n text c = character-is s bytes n text c
content-is outside s t bytes kind.Re n text c = subst (λ k. KindInCdata s.context.doctype.syntax bytes (length (take n bytes)) k) (sym (end-kind s text)) tt
content-is outside s t bytes kind.Rs n text c = subst (λ k. KindInCdata s.context.doctype.syntax bytes (length (take n bytes)) k) (sym (start-kind s text)) tt
content-is outside s t bytes kind.EndTag n text c = tt
content-is outside s t bytes kind.EmptyEnd n text c = ending-is s.context.doctype.syntax bytes (length (take n bytes)) Short (empty_end_type s.context)
content-is outside s t bytes kind.Net n text c = ending-is s.context.doctype.syntax bytes (length (take n bytes)) Net (net_type s.context)
content-is outside s t bytes _ n text c = absurd c

token-piece : (outside : Outside) (s : State) (t : Stacked) (bytes : Text) (x : Scanned) → in_doctype s.stage t.entities ≡ false → mode_at s t.entities ≡ mode.Cdt → has_text s ≡ true
    → ScannedIs s.context.doctype.syntax bytes x → ResultIs s.context.doctype.syntax bytes (by_token outside s t bytes x)
token-piece outside s t bytes (Token x) e m text k = by (in_doctype s.stage t.entities) e (mode_at s t.entities) m
  where
    by : (b : Bool) → b ≡ false → (m : Mode) → m ≡ mode.Cdt → ResultIs s.context.doctype.syntax bytes (piece_in b outside s t m x.kind (take x.length bytes))
    by true e m f = true-false e
    by false e m f =
        subst (λ m. ResultIs s.context.doctype.syntax bytes (content_piece outside s t m x.kind (take x.length bytes))) (sym f) (content-is outside s t bytes x.kind x.length text k)
token-piece outside s t bytes NeedMore e m text k = tt
token-piece outside s t bytes (BadToken r) e m text k = tt

stage-piece : (outside : Outside) (s : State) (t : Stacked) (b : ℕ) (bytes : Text) (g : Stage) → s.stage ≡ g → in_doctype s.stage t.entities ≡ false → mode_at s t.entities ≡ mode.Cdt → has_text s ≡ true
    → ResultIs s.context.doctype.syntax (b ∷ bytes) (by_stage outside s t (b ∷ bytes) g)
stage-piece outside s t b bytes AfterSubset g e m text =
    token-piece outside s t (b ∷ bytes) (token_here s t (b ∷ bytes)) e m text
    (subst (λ m. ScannedIs s.context.doctype.syntax (b ∷ bytes) (token_at s.context.doctype.syntax (record { mode = m; net = net_in_force s.context; maps = is_map (map_at s) }) (b ∷ bytes)))
    (sym m) (token-is s.context.doctype.syntax (net_in_force s.context) (is_map (map_at s)) b bytes))
stage-piece outside s t b bytes BeforeSyntax g e m text = true-false (sym (ap (λ x. in_doctype x t.entities) g) ∙ e)
stage-piece outside s t b bytes AtBeginning g e m text = true-false (sym (ap (λ x. in_doctype x t.entities) g) ∙ e)
stage-piece outside s t b bytes BeforeDoctype g e m text = true-false (sym (ap (λ x. in_doctype x t.entities) g) ∙ e)
stage-piece outside s t b bytes InSubset g e m text = true-false (sym (ap (λ x. in_doctype x t.entities) g) ∙ e)

document-is : (s : Syntax) (bytes : Text) (g : Stage) (b : Bool) → ResultIs s bytes (document_end g b)
document-is s bytes BeforeSyntax b = tt
document-is s bytes AtBeginning b = tt
document-is s bytes BeforeDoctype b = tt
document-is s bytes InSubset b = tt
document-is s bytes AfterSubset true = tt
document-is s bytes AfterSubset false = tt

unless-is : (s : Syntax) (bytes : Text) (o : Option Reason) → ResultIs s bytes (unless_reason o (sized 0 EntityEnd))
unless-is s bytes None = tt
unless-is s bytes (Some r) = tt

entity-is : (x : Syntax) (bytes : Text) (s : State) (n : ℕ) (b : Bool) → ResultIs x bytes (entity_end s n b)
entity-is x bytes s n true = tt
entity-is x bytes s n false = unless-is x bytes (type_end n s.context.doctype)

text-piece : (outside : Outside) (s : State) (t : Stacked) (n : ℕ) (bytes : Text) → in_doctype s.stage t.entities ≡ false → mode_at s t.entities ≡ mode.Cdt → has_text s ≡ true
    → ResultIs s.context.doctype.syntax bytes (spelled_in outside s t n bytes)
text-piece outside s t n [] e m text =
    if-result s.context.doctype.syntax [] (n == 0) (document_end s.stage (in_section s.texts s.sections)) (entity_end s n (in_section s.texts s.sections))
    (document-is s.context.doctype.syntax [] s.stage (in_section s.texts s.sections)) (entity-is s.context.doctype.syntax [] s n (in_section s.texts s.sections))
text-piece outside s t n (b ∷ bytes) e m text =
    if-result s.context.doctype.syntax (b ∷ bytes) (is_early_end s.stage b) (Err reason.NoDoctype) (by_stage outside s t (b ∷ bytes) s.stage) tt
    (stage-piece outside s t b bytes s.stage refl e m text)

-- what is unread of the text at the top
abbrev pub top : List Rest → Text
top [] = []
top (r ∷ rs) = r.bytes

rests-piece : (outside : Outside) (s : State) (t : Stacked) (rs : List Rest) → in_doctype s.stage t.entities ≡ false → mode_at s t.entities ≡ mode.Cdt → has_text s ≡ true
    → ResultIs s.context.doctype.syntax (top rs) (spelled_of outside s t rs)
rests-piece outside s t [] e m text = tt
rests-piece outside s t (r ∷ rs) e m text = text-piece outside s t r.entity r.bytes e m text

-- WHERE NO SECTION has a mode of its own, that of the element is the mode of the place
abbrev pub SectionsLet : State → Type 0
SectionsLet s = mode_in s ≡ mode.Cdt → section_mode s.sections ≡ None

mode-here : (s : State) (entities : List ℕ) → in_doctype s.stage entities ≡ false → SectionsLet s → mode_in s ≡ mode.Cdt → mode_at s entities ≡ mode.Cdt
unfolding mode_at
mode-here s entities e l m =
    ap (λ o. unwrap_or o (if in_doctype s.stage entities then mode.Ds else mode_in s)) (l m)
    ∙ ap (λ b. if b then mode.Ds else mode_in s) e
    ∙ m

pub spelled-in-cdata : (outside : Outside) (s : State) (t : Standing) (p : Piece) → IsInInstance s t → SectionsLet s → mode_in s ≡ mode.Cdt → spelled outside s t ≡ Ok p
    → KindInCdata s.context.doctype.syntax (top t.rests) p.size p.kind
unfolding spelled
spelled-in-cdata outside s t p e l m h =
    let k = stacked t in
    subst (λ (x : Result Piece Reason). ResultIs s.context.doctype.syntax (top t.rests) x) h
    (rests-piece outside s k t.rests e (mode-here s k.entities e l m) (raw-text s m))
