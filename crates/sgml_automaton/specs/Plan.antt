-- What can follow each token of a model without AND groups, in tables.
use Rattle.std.specs.Prelude.{ℕ, zero, suc, nat_lt, Bool, false, ◌&&◌, List, [], ◌∷◌, ◌++◌, length, Option, Some, None, is_none, option_and_then, map, slice_get, slice_set, if◌then◌else◌}
use Rattle.std.specs.Option.{option_or}
use Rattle.sgml_model.specs.Term.{Term, empty, name, pcdata, seq, or, and, opt, plus, rep, member, round, Terms, none, more, done, all_done, required, first_required}
use Rattle.sgml_ambiguity.specs.sgml_names.Index.{found}
use Rattle.sgml_ambiguity.specs.Names.{number_in}
use Rattle.sgml_automaton.specs.declared.plan.Scope.{Scope}
use Rattle.sgml_automaton.specs.declared.plan.Exit.{Exit}
use Rattle.sgml_automaton.specs.declared.plan.Place.{Place}
use Rattle.sgml_automaton.specs.declared.plan.Run.{Run}
use Rattle.sgml_automaton.specs.declared.plan.Plan.{Plan}
use Rattle.sgml_automaton.specs.declared.plan.Index.{Index}

-- a scope with one token more, unless one of its name is there
abbrev pub added : Scope → Option (List ℕ) → ℕ → Option Scope
added s None k = if is_none s.text then Some (record { names = s.names; text = Some k }) else None
added s (Some n) k = if is_none (found s.names n) then Some (record { names = s.names ++ (n, k) ∷ []; text = s.text }) else None

-- the number, where it is in the range
abbrev pub within : ℕ → ℕ → Option ℕ → Option ℕ
within a z None = None
within a z (Some j) = if nat_lt j a then None else if nat_lt j z then Some j else None

-- the tables
pub record Tables : Type 0 where
  pub scopes : List Scope
  pub exits : List Exit
  pub places : List Place
  pub names : List (List ℕ)

abbrev pub tables : List Scope → List Exit → List Place → List (List ℕ) → Tables
tables ss es ps ns = record { scopes = ss; exits = es; places = ps; names = ns }

abbrev pub tables_of : Plan → Tables
tables_of p = tables p.scopes.items p.exits.items p.places.items p.names.items

-- the tables of a plan that is whole
abbrev pub tables_if : Bool → Plan → Option Tables
tables_if whole p = if whole then Some (tables_of p) else None

-- a scope without tokens
abbrev pub no_tokens : Scope
no_tokens = record { names = []; text = None }

abbrev pub place : Option ℕ → Bool → Option ℕ → Place
place e f n = record { exit = e; finished = f; needed = n }

abbrev pub exit : ℕ → ℕ → ℕ → Option ℕ → Exit
exit f a z e = record { scope = f; from = a; to = z; next = e }

abbrev pub run : ℕ → Bool → Option ℕ → Run
run f d n = record { scope = f; done = d; needed = n }

-- the number of the first token
abbrev mutual
  pub begins : Term → ℕ
  begins empty = 0
  begins (name k n) = k
  begins (pcdata k) = k
  begins (seq ms) = begins_of ms 0
  begins (or ms) = begins_of ms 0
  begins (and ms) = begins_of ms 0
  begins (opt m) = begins m
  begins (plus m) = begins m
  begins (rep m) = begins m
  begins (member r left) = 0
  begins (round r m) = 0

  pub begins_of : Terms → ℕ → ℕ
  begins_of none z = z
  begins_of (more m ms) z = begins m

-- the number behind that of the last token; z is that of those before
abbrev mutual
  pub ends : Term → ℕ
  ends empty = 0
  ends (name k n) = suc k
  ends (pcdata k) = suc k
  ends (seq ms) = ends_of ms 0
  ends (or ms) = ends_of ms 0
  ends (and ms) = ends_of ms 0
  ends (opt m) = ends m
  ends (plus m) = ends m
  ends (rep m) = ends m
  ends (member r left) = 0
  ends (round r m) = 0

  pub ends_of : Terms → ℕ → ℕ
  ends_of none z = z
  ends_of (more m ms) z = ends_of ms (ends m)

-- one exit more
abbrev pub leading : Tables → Exit → Tables
leading t e = tables t.scopes (t.exits ++ e ∷ []) t.places t.names

-- the token k of this name gets into the scope, and has this place
abbrev pub told_in : Option Scope → ℕ → ℕ → Place → Tables → Option Tables
told_in None k f p t = None
told_in (Some s) k f p t = Some (tables (slice_set t.scopes f s) t.exits (slice_set t.places k p) t.names)

abbrev pub told_by : Option Scope → ℕ → Option (List ℕ) → ℕ → Place → Tables → Option Tables
told_by None k l f p t = None
told_by (Some s) k l f p t = told_in (added s l k) k f p t

abbrev pub told : ℕ → Option (List ℕ) → ℕ → Place → Tables → Option Tables
told k l f p t = if nat_lt k (length t.places) then told_by (slice_get t.scopes f) k l f p t else None

-- a name that is needed
abbrev pub naming : Option (List ℕ) → Tables → Option ℕ × Tables
naming None t = (None, t)
naming (Some n) t = (Some (length t.names), tables t.scopes t.exits t.places (t.names ++ n ∷ []))

abbrev pub running : Terms → ℕ → Tables → Run × Tables
running ms f t = (run f (all_done ms) (naming (first_required ms) t).0, (naming (first_required ms) t).1)

-- the members from one on, with a scope of their own
abbrev pub opened : Terms → Tables → Run × Tables
opened ms t = running ms (length t.scopes) (tables (t.scopes ++ no_tokens ∷ []) t.exits t.places t.names)

-- the members behind m
abbrev pub next_run : Term → Terms → Run → Tables → Run × Tables
next_run m ms g t = if done m then (g, t) else opened ms t

-- after a member before ms, up to z; c is after all
abbrev pub beyond : Terms → Run → ℕ → Place → Tables → Place × Tables
beyond none g z c t = (c, t)
beyond (more m ms) g z c t = (
  place (Some (length t.exits)) (g.done && c.finished) (if g.done then c.needed else g.needed),
  leading t (exit g.scope (begins m) z (if g.done then c.exit else None)),
)

-- a new round can come
abbrev pub again : ℕ → ℕ → ℕ → Place → Tables → Place × Tables
again f a z c t = (place (Some (length t.exits)) c.finished c.needed, leading t (exit f a z c.exit))

-- the tables with those of a term up to z, whose first tokens are in the scope f; c is after it
abbrev mutual
  pub planned : Term → ℕ → ℕ → Place → Tables → Option Tables
  planned empty z f c t = None
  planned (name k n) z f c t = told k (Some n) f c t
  planned (pcdata k) z f c t = told k None f (again f k z c t).0 (again f k z c t).1
  planned (seq ms) z f c t = planned_in_order ms (running ms f t).0 z c (running ms f t).1
  planned (or ms) z f c t = planned_some ms z f c t
  planned (and ms) z f c t = None
  planned (opt m) z f c t = planned m z f c t
  planned (plus m) z f c t = planned m z f (again f (begins m) z c t).0 (again f (begins m) z c t).1
  planned (rep m) z f c t = planned m z f (again f (begins m) z c t).0 (again f (begins m) z c t).1
  planned (member r left) z f c t = None
  planned (round r m) z f c t = None

  pub planned_in_order : Terms → Run → ℕ → Place → Tables → Option Tables
  planned_in_order none g z c t = Some t
  planned_in_order (more m ms) g z c t =
      option_and_then (λ u. planned_in_order ms (next_run m ms g t).0 z c u)
      (planned m (begins_of ms z) g.scope
      (beyond ms (next_run m ms g t).0 z c (next_run m ms g t).1).0 (beyond ms (next_run m ms g t).0 z c (next_run m ms g t).1).1)

  pub planned_some : Terms → ℕ → ℕ → Place → Tables → Option Tables
  planned_some none z f c t = Some t
  planned_some (more m ms) z f c t = option_and_then (λ u. planned_some ms z f c u) (planned m (begins_of ms z) f c t)

-- the token of a name in a scope
abbrev pub find_in : Option Scope → Option (List ℕ) → Option ℕ
find_in None l = None
find_in (Some s) l = number_in s.names s.text l

abbrev pub find : List Scope → ℕ → Option (List ℕ) → Option ℕ
find ss f l = find_in (slice_get ss f) l

-- the token of a name at an exit
abbrev pub hit : List Scope → Exit → Option (List ℕ) → Option ℕ
hit ss e l = within e.from e.to (find ss e.scope l)

-- the token of a name at an exit, or what the others give
abbrev pub hit_or : List Scope → Option Exit → Option (List ℕ) → (Option ℕ → Option ℕ) → Option ℕ
hit_or ss None l others = None
hit_or ss (Some e) l others = option_or (hit ss e l) (others e.next)

-- the token of a name at so many exits, one after another
abbrev pub chase : ℕ → List Scope → List Exit → Option ℕ → Option (List ℕ) → Option ℕ
chase zero ss es at l = None
chase (suc n) ss es at l = hit_or ss (option_and_then (slice_get es) at) l (λ i. chase n ss es i l)

-- a name by its index
abbrev pub named : List (List ℕ) → Option ℕ → Option (List ℕ)
named ns None = None
named ns (Some i) = slice_get ns i

-- no tables yet but the scope of the model, the name that it needs and the exit to its first tokens
abbrev pub bare : List Place → Tables
bare ps = tables (no_tokens ∷ []) [] ps []

abbrev pub begun : Term → ℕ → List Place → Place × Tables
begun x z ps =
    (place (Some 0) (done x) (naming (required x) (bare ps)).0, leading (naming (required x) (bare ps)).1 (exit 0 0 z None))

-- what is known at the start, and after a last token
abbrev pub place_at : Tables → Place → Option ℕ → Option Place
place_at t s None = Some s
place_at t s (Some k) = slice_get t.places k

abbrev pub place_in : Index → Option ℕ → Option Place
place_in i last = place_at (tables_of i.plan) i.start last

abbrev pub exit_of : Option Place → Option ℕ
exit_of None = None
exit_of (Some p) = p.exit

abbrev pub finished_of : Option Place → Bool
finished_of None = false
finished_of (Some p) = p.finished

abbrev pub needed_of : List (List ℕ) → Option Place → Option (List ℕ)
needed_of ns None = None
needed_of ns (Some p) = named ns p.needed

abbrev pub next_in : Tables → Place → Option ℕ → Option (List ℕ) → Option ℕ
next_in t s last l = chase (length t.exits) t.scopes t.exits (exit_of (place_at t s last)) l

-- the token of #PCDATA that can come after a place, and after each token
abbrev pub text_from : Tables → Place → Option ℕ
text_from t p = chase (length t.exits) t.scopes t.exits p.exit None

abbrev pub texts_of : Tables → List (Option ℕ)
texts_of t = map (λ p. text_from t p) t.places
