-- What was read of a file, of its text.
use Rattle.std.specs.Prelude.{IfSome, if◌then◌else◌}
use Rattle.std.proofs.Common.{◌≡◌, inl, inr, ℕ, ◌+◌, ◌-◌, ◌<◌, ◌≤◌, Bool, true, false, [], drop, take, length, Option, None, Some, Result, Ok, Err, refl, sym, ap, ◌∙◌, subst, arith, length-drop, drop-drop}
use Rattle.std.proofs.lemmas.List.{drop_all}
use Rattle.sgml_text.specs.declared.reason.Reason.{Reason}
use Rattle.sgml_text.specs.declared.reason.Reason.TheVariants as reason
use Rattle.sgml_text.specs.Characters.{all_sgml}
use Rattle.sgml_syntax.specs.declared.syntax.Syntax.{Syntax}
use Rattle.sgml_declared.specs.theory_reading.Names.{Name, Text}
use Rattle.sgml_prolog.specs.sgmldecl.declared.feature.Feature.{Feature}
use Rattle.sgml_prolog.specs.sgmldecl.declared.feature.Feature.TheVariants as feature
use Rattle.sgml_prolog.specs.sgmldecl.declared.feature.DeclError.{DeclError}
use Rattle.sgml_prolog.specs.sgmldecl.declared.feature.DeclError.TheVariants as errors
use Rattle.sgml_prolog.specs.sgmldecl.Machine.{Outcome, bad as no_whole, whole, run, begin_state}
use Rattle.sgml_prolog.specs.sgmldecl.Refusing.{answer}
use Rattle.sgml_declared.specs.theory_reading.Pieces.{Piece, Sgml}
use Rattle.sgml_declared.specs.theory_spelling.Sized.{sized}
use Rattle.sgml_declared.specs.theory_spelling.SgmlDeclared.{feature_reason, declaration_reason, sgml_of, sgml_by, sgml_piece}
use Rattle.sgml_prolog.specs.Sgml.{IsSgmlRead}
use Rattle.sgml_declared.specs.theory_reading.Unread.{Fetched, Found}
use Rattle.sgml_source.specs.Inputs.{Files, most_bytes, fetched_in}
use Rattle.sgml_settings.specs.BadFiles.{IsBadFile, IsTextRead, IsAbsentFile}
use Rattle.sgml_settings.specs.Declarations.{separators, after_separators, behind, HasDeclaration, Declares, IsNoDeclaration}
use Rattle.sgml_settings.specs.Setting.{OrFails, DeclarationOf, ReadsDeclaration}
use Rattle.sgml_settings.specs.declared.bad_file.BadFile.{BadFile}
use Rattle.sgml_settings.specs.declared.bad_file.SettingsError.{SettingsError}
use Rattle.sgml_settings.specs.declared.bad_file.SettingsError.TheVariants as error

-- a file that is there isn't told absent
pub not-absent : (A : Type 0) (number : ℕ) (name : Name) (text : Text) (at : ℕ) (why : Reason) (e : SettingsError) → (why ≡ reason.Absent → ⊥) → IsBadFile number name text at why e → IsAbsentFile {A = A} (Err e) → ⊥
not-absent A number name text at why (error.Refused bad) n b a = n (sym (ap (λ (x : BadFile). x.refusal.reason) b) ∙ a)
not-absent A number name text at why error.Store n b a = a
not-absent A number name text at why error.Memory n b a = a

-- nor is a declaration that can't be read
no-feature : (f : Feature) → feature_reason f ≡ reason.Absent → ⊥
no-feature feature.Datatag e = cc
no-feature feature.Rank e = cc
no-feature feature.Link e = cc
no-feature feature.Concur e = cc
no-feature feature.Subdoc e = cc
no-feature feature.Other e = cc

no-declaration : (e : DeclError) → declaration_reason e ≡ reason.Absent → ⊥
no-declaration (errors.BadDeclaration at) e = cc
no-declaration (errors.FeatureOut which at) e = no-feature which e
no-declaration (errors.QuantityOut name number at) e = cc
no-declaration errors.Memory e = cc

reason-in : Result Piece Reason → Reason
reason-in (Ok p) = reason.BadDeclaration
reason-in (Err r) = r

same-reason : (r q : Reason) (x y : Result Piece Reason) → x ≡ Err r → y ≡ Err q → x ≡ y → r ≡ q
unfolding reason-in
same-reason r q x y h k e = ap reason-in (sym h ∙ (e ∙ k))

no-ok : (p : Piece) (r : Reason) (x y : Result Piece Reason) → x ≡ Ok p → y ≡ Err r → x ≡ y → ⊥
no-ok p r x y h k e = cc

non-sgml : reason.NonSgml ≡ reason.Absent → ⊥
non-sgml e = cc

no-sgml : (p : Piece) (all : Bool) → if◌then◌else◌ all (Ok p) (Err reason.NonSgml) ≡ Err reason.Absent → ⊥
no-sgml p true e = no-ok p reason.Absent (Ok p) (Err reason.Absent) refl refl e
no-sgml p false e = non-sgml (same-reason reason.NonSgml reason.Absent (Err reason.NonSgml) (Err reason.Absent) refl refl e)

no-sgml-of : (bytes : Text) (r : Result (Syntax × ℕ) DeclError) → sgml_of bytes r ≡ Err reason.Absent → ⊥
no-sgml-of bytes (Err e) h = no-declaration e (same-reason (declaration_reason e) reason.Absent (Err (declaration_reason e)) (Err reason.Absent) refl refl h)
no-sgml-of bytes (Ok x) h = no-sgml (sized x.1 (Sgml x.0)) (all_sgml (take x.1 bytes)) h

no-sgml-by : (bytes : Text) (o : Outcome) → sgml_by bytes o ≡ Err reason.Absent → ⊥
no-sgml-by bytes (no_whole at) h = no-sgml-of bytes (Err (errors.BadDeclaration at)) h
no-sgml-by bytes (whole heard n) h = no-sgml-of bytes (answer heard n) h

no-piece : (bytes : Text) → sgml_piece bytes ≡ Err reason.Absent → ⊥
unfolding sgml_piece
no-piece bytes h = no-sgml-by bytes (run 0 begin_state bytes) h

bad-declaration : reason.BadDeclaration ≡ reason.Absent → ⊥
bad-declaration e = cc

pub none-absent : (text : Text) (at : ℕ) (why : Reason) → IsNoDeclaration text at why → why ≡ reason.Absent → ⊥
none-absent text at why (inl n) e = no-piece (after_separators text) (n.1 ∙ ap Err e)
none-absent text at why (inr f) e = bad-declaration (sym f.1 ∙ e)

-- one declaration with separators around it, or what follows it
left-of : (text rest : Text) (b n : ℕ) → rest ≡ drop (b + n) text → length rest ≡ length text - (b + n)
left-of text rest b n e = ap length e ∙ length-drop (b + n) text

some-left : (xs : Text) (k : ℕ) → k < length xs → drop k xs ≡ [] → ⊥
some-left xs k l e =
    let z : length xs - k ≡ 0 = sym (length-drop k xs) ∙ ap length e in
    omega (arith, z, l)

drop-both : (text : Text) (b n : ℕ) → drop n (drop b text) ≡ drop (b + n) text
drop-both text b n = drop-drop n b text

has-there : (text : Text) (b n : ℕ) (s : Syntax) (own : Text) → b ≡ separators text → own ≡ drop b text → IsSgmlRead own (Ok (s, n)) → HasDeclaration text s n
has-there text b n s own eb eo r = subst (λ (x : Text). sgml_piece x ≡ Ok (sized n (Sgml s))) (eo ∙ ap (λ (k : ℕ). drop k text) eb) r.2

behind-there : (text : Text) (b n : ℕ) (rest : Text) → b ≡ separators text → rest ≡ drop (b + n) text → behind text n ≡ rest
behind-there text b n rest eb er = ap (λ (k : ℕ). drop n (drop k text)) (sym eb) ∙ (drop-both text b n ∙ sym er)

pub declared-alone : (text : Text) (b n k : ℕ) (s : Syntax) (own rest : Text) → b ≡ separators text → own ≡ drop b text → IsSgmlRead own (Ok (s, n)) → rest ≡ drop (b + n) text → k ≡ separators rest
    → length text ≤ b + n + k → Declares text s
declared-alone text b n k s own rest eb eo r er ek l = record {
  size = n;
  has = has-there text b n s own eb eo r;
  alone = subst (λ (x : Text). after_separators x ≡ []) (sym (behind-there text b n rest eb er)) (drop_all (separators rest) rest (over (separators rest) (left-of text rest b n er) ek));
}
  where
    over : (m : ℕ) → length rest ≡ length text - (b + n) → k ≡ m → length rest ≤ m
    over m e f = omega (arith, e, f, l)

pub declared-followed : (text : Text) (b n k : ℕ) (s : Syntax) (own rest : Text) → b ≡ separators text → own ≡ drop b text → IsSgmlRead own (Ok (s, n)) → rest ≡ drop (b + n) text → k ≡ separators rest
    → b + n + k < length text → IsNoDeclaration text (b + n + k) reason.BadDeclaration
declared-followed text b n k s own rest eb eo r er ek l =
    let there = behind-there text b n rest eb er in
    inr (
      record {
        syntax = s;
        size = n;
        has = has-there text b n s own eb eo r;
        other = subst (λ (x : Text). after_separators x ≡ [] → ⊥) (sym there) (some-left rest (separators rest) (under (separators rest) (left-of text rest b n er) ek));
        at_other = (λ i. eb i + n + ek i) ∙ ap (λ (x : Text). separators text + n + separators x) (sym there);
      },
      refl,
    )
  where
    under : (m : ℕ) → length rest ≡ length text - (b + n) → k ≡ m → m < length rest
    under m e f = omega (arith, e, f, l)

-- the whole of the file of a declaration
declaration-by : (name : Name) (text : Text) (f : Fetched) (result : Result Syntax SettingsError) → f ≡ Found text → OrFails (DeclarationOf name text) result → OrFails (ReadsDeclaration name f) result
declaration-by name text f result e h = subst (λ (x : Fetched). OrFails (ReadsDeclaration name x) result) (sym e) (of-text result h)
  where
    of-text : (r : Result Syntax SettingsError) → OrFails (DeclarationOf name text) r → OrFails (ReadsDeclaration name (Found text)) r
    of-text (Ok a) h = h
    of-text (Err (error.Refused bad)) h = h
    of-text (Err error.Store) h = tt
    of-text (Err error.Memory) h = tt

pub declaration-read : (known : Option Files) (number : ℕ) (name : Name) (text : Text) (result : Result Syntax SettingsError) → IfSome known (λ files. IsTextRead number name (fetched_in most_bytes files name) (Ok text))
    → OrFails (DeclarationOf name text) result → IfSome known (λ files. OrFails (ReadsDeclaration name (fetched_in most_bytes files name)) result)
declaration-read None number name text result e h = tt
declaration-read (Some files) number name text result e h = declaration-by name text (fetched_in most_bytes files name) result e h
