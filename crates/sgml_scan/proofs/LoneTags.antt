-- A tag that is a name alone needs no second look, and has one part.
use Rattle.std.proofs.Common.{◌≡◌, ℕ, suc, ◌+◌, ◌<◌, ◌≤◌, Bool, true, false, List, [], ◌∷◌, ◌++◌, length, take, drop, refl, sym, ◌∙◌, ap, subst, if◌then◌else◌, Ok, arith, length-append, slice_index_or, inl}
use Rattle.std.specs.List.{list_all}
use Rattle.sgml_text.specs.NameCharacters.{is_name_character, is_name_start, is_name_of}
use Rattle.sgml_syntax.specs.declared.syntax.Syntax.{Syntax}
use Rattle.sgml_delim.specs.declared.delim.Delim.TheVariants as d
use Rattle.sgml_delim.specs.declared.delim.Recognised.TheVariants.{Found}
use Rattle.sgml_delim.proofs.Deciding.{true-false, and-left}
use Rattle.sgml_markup.specs.declared.kinds.Form.TheVariants as form
use Rattle.sgml_markup.specs.declared.kinds.TokenKind.TheVariants as kind
use Rattle.sgml_markup.specs.declared.kinds.PartKind.TheVariants as part
use Rattle.sgml_markup.specs.declared.kinds.Part.{Part}
use Rattle.sgml_markup.specs.Ends.{end_of}
use Rattle.sgml_markup.specs.Forms.{last_byte, begins_tagc, begins_slash, parts_of, parts_of_tag}
use Rattle.sgml_markup.specs.TagForm.{has_bytes, SpellsForm}
use Rattle.sgml_markup.specs.QuickTags.{IsQuickTag, BeginsName}
use Rattle.sgml_markup.proofs.Bytes.{name-named, take-past, last-is}
use Rattle.sgml_markup.proofs.FormMarkup.{name-all, append-none, form-parts}
use Rattle.sgml_markup.proofs.FormSteps.{start-is-name}
use Rattle.sgml_markup.proofs.QuickCode.{tagc-is}
use Rattle.sgml_markup.proofs.QuickMarkup.{quick-markup}
use Rattle.sgml_scan.specs.Lone.{BeginsLone, IsLoneTag}
use Rattle.sgml_scan.proofs.Quick.{start-found, end-found}
use Rattle.sgml_scan.proofs.Markup.{closed-some}

-- a name at the head of a text, and TAGC after it
pub begins-lone : (s : Syntax) (text : List ℕ) (n : ℕ) → BeginsName s text n → begins_tagc (drop n text) ≡ true → BeginsLone s text (n + 1)
begins-lone s text n h e = record {
  name = h.name;
  rest = drop 1 (drop n text);
  stands = h.stands;
  short = h.short;
  is = h.is ∙ ap (λ (xs : List ℕ). h.name ++ xs) (sym (past h.name h.rest) ∙ ap (λ (k : ℕ). drop k (h.name ++ h.rest)) (sym h.size) ∙ ap (drop n) (sym h.is) ∙ tagc-is (drop n text) e);
  size = ap (λ (k : ℕ). k + 1) h.size;
}
  where
    past : (xs ys : List ℕ) → drop (length xs) (xs ++ ys) ≡ ys
    past [] ys = refl
    past (x ∷ xs) ys = past xs ys

pub name-some : (s : Syntax) (name : List ℕ) → is_name_of s.names name ≡ true → has_bytes name ≡ true
name-some s [] e = absurd (true-false e)
name-some s (b ∷ bs) e = refl

quick-lone : (s : Syntax) (closing : Bool) (text : List ℕ) (n : ℕ) → BeginsLone s text n → IsQuickTag s closing text n
quick-lone s closing text n h = record {
  name = h.name;
  after = 62 ∷ h.rest;
  size = 1;
  named = name-all s h.name h.stands;
  some = name-some s h.name h.stands;
  short = h.short;
  ends = record { specifications = []; rest = h.rest; stand = tt; quick = tt; is = refl; size = refl };
  alone = λ e. refl;
  is = h.is;
  adds = h.size;
}

-- with what it begins, and with what it doesn't
pub first-starts : (s : Syntax) (text name after : List ℕ) → is_name_of s.names name ≡ true → text ≡ name ++ after → is_name_start s.names (slice_index_or text 0 0) ≡ true
first-starts s text [] after e is = absurd (true-false e)
first-starts s text (b ∷ bs) after e is =
    ap (λ (xs : List ℕ). is_name_start s.names (slice_index_or xs 0 0)) is ∙ and-left (is_name_start s.names b) (list_all (is_name_character s.names) bs) e

pub no-tagc : (s : Syntax) (name after : List ℕ) → is_name_of s.names name ≡ true → begins_tagc (name ++ after) ≡ false
no-tagc s [] after e = absurd (true-false e)
no-tagc s (b ∷ bs) after e =
    (name-named s.names b (start-is-name s.names b (and-left (is_name_start s.names b) (list_all (is_name_character s.names) bs) e))).no_tagc

pub no-slash : (s : Syntax) (name after : List ℕ) → is_name_of s.names name ≡ true → begins_slash (name ++ after) ≡ false
no-slash s [] after e = absurd (true-false e)
no-slash s (b ∷ bs) after e =
    (name-named s.names b (start-is-name s.names b (and-left (is_name_start s.names b) (list_all (is_name_character s.names) bs) e))).no_net

pub some-length : (s : Syntax) (name : List ℕ) → is_name_of s.names name ≡ true → 0 < length name
some-length s [] e = absurd (true-false e)
some-length s (b ∷ bs) e = omega arith

text-length : {s : Syntax} {text : List ℕ} {n : ℕ} (h : BeginsLone s text n) → 2 ≤ length text
text-length {s = s} {text = text} h =
    let is = ap length h.is in
    let len = length-append h.name (62 ∷ h.rest) in
    let some = some-length s h.name h.stands in
    omega (arith, is, len, some)

-- its bytes
lone-taken : {s : Syntax} {text : List ℕ} {n : ℕ} (h : BeginsLone s text n) → take n text ≡ h.name ++ 62 ∷ []
lone-taken {text = text} {n = n} h =
    let size : n ≡ suc (length h.name) = let e = h.size in omega (arith, e) in
    ap (λ (k : ℕ). take k text) size ∙ ap (take (suc (length h.name))) h.is ∙ take-past h.name h.rest 62

-- its one part, in a tag whose delimiter has so many bytes
lone-parts : (s : Syntax) (closing : Bool) (start : ℕ) (delimiter name : List ℕ) → length delimiter ≡ start → list_all (is_name_character s.names) name ≡ true
    → parts_of s closing start (delimiter ++ (name ++ 62 ∷ [])) ≡ record { kind = part.ElementName; from = start; to = start + length name } ∷ []
lone-parts s closing start delimiter name e named = form-parts s closing start (delimiter ++ (name ++ 62 ∷ [])) spelled
  where
    spelled : SpellsForm s closing start (delimiter ++ (name ++ 62 ∷ []))
    spelled = record {
      delimiter = delimiter;
      text = name;
      close = 62 ∷ [];
      body = record {
        name = name;
        specifications = [];
        last = [];
        named = named;
        stand = tt;
        separators = refl;
        alone = λ e. refl;
        is = sym (append-none name);
      };
      begins = e;
      closes = inl refl;
      is = refl;
    }

abbrev part_at : ℕ → ℕ → Part
part_at from to = record { kind = part.ElementName; from = from; to = to }

one-more : (n : ℕ) → 1 + n ≡ suc n
one-more n = omega arith

two-more : (n : ℕ) → 2 + n ≡ suc (suc n)
two-more n = omega arith

-- A START-TAG
pub start-lone : (s : Syntax) (b : ℕ) (text : List ℕ) (n : ℕ) → b ≡ 60 → BeginsLone s text n → IsLoneTag s kind.StartTag 1 (b ∷ text) (1 + n)
start-lone s b text n is h = subst (λ (x : ℕ). IsLoneTag s kind.StartTag 1 (x ∷ text) (1 + n)) (sym is) (record {
  scanned = λ st ended con. record {
    recognised = Found d.Stago 1;
    answers = start-found s st.mode st.net ended (60 ∷ text) (record {
      con = con;
      long = let l = text-length h in omega (arith, l);
      stago = refl;
      name = first-starts s text h.name (62 ∷ h.rest) h.stands h.is;
    });
    token = sym (closed-some s ended (60 ∷ text) form.StartTag (end_of s form.StartTag ended text) (record { length = 1 + n; judged = Ok kind.StartTag })
        (quick-markup s false ended (60 ∷ text) (1 + n) (omega arith) (record { after = n; sgml = refl; tag = quick-lone s false text n h; adds = refl })));
  };
  parts = ap (λ (k : ℕ). parts_of_tag s (take k (60 ∷ text))) (one-more n)
      ∙ ap (λ (xs : List ℕ). parts_of_tag s (60 ∷ xs)) (lone-taken h)
      ∙ ap (λ (t : Bool). if t then [] else if begins_slash tag then (if begins_tagc (drop 1 tag) then [] else parts_of s true 2 (60 ∷ tag)) else parts_of s false 1 (60 ∷ tag))
      (no-tagc s h.name (62 ∷ []) h.stands)
      ∙ ap (λ (t : Bool). if t then (if begins_tagc (drop 1 tag) then [] else parts_of s true 2 (60 ∷ tag)) else parts_of s false 1 (60 ∷ tag))
      (no-slash s h.name (62 ∷ []) h.stands)
      ∙ lone-parts s false 1 (60 ∷ []) h.name refl (name-all s h.name h.stands)
      ∙ ap (λ (to : ℕ). part_at 1 to ∷ []) (let e = h.size in omega (arith, e));
  some = let e = h.size in let some = some-length s h.name h.stands in omega (arith, e, some);
  closed = ap (λ (k : ℕ). last_byte (take k (60 ∷ text))) (one-more n) ∙ ap (λ (xs : List ℕ). last_byte (60 ∷ xs)) (lone-taken h) ∙ last-is (60 ∷ h.name) 62;
})
  where
    tag : List ℕ
    tag = h.name ++ 62 ∷ []

-- AN END-TAG
pub end-lone : (s : Syntax) (b c : ℕ) (text : List ℕ) (n : ℕ) → b ≡ 60 → c ≡ 47 → BeginsLone s text n → IsLoneTag s kind.EndTag 2 (b ∷ c ∷ text) (2 + n)
end-lone s b c text n is slash h = subst (λ (x : ℕ). IsLoneTag s kind.EndTag 2 (x ∷ c ∷ text) (2 + n)) (sym is)
    (subst (λ (x : ℕ). IsLoneTag s kind.EndTag 2 (60 ∷ x ∷ text) (2 + n)) (sym slash) (record {
      scanned = λ st ended con. record {
        recognised = Found d.Etago 2;
        answers = end-found s st.mode st.net ended (60 ∷ 47 ∷ text) (record {
          con = con;
          long = let l = text-length h in omega (arith, l);
          stago = refl;
          slash = refl;
          name = first-starts s text h.name (62 ∷ h.rest) h.stands h.is;
        });
        token = sym (closed-some s ended (60 ∷ 47 ∷ text) form.EndTag (end_of s form.EndTag ended text) (record { length = 2 + n; judged = Ok kind.EndTag })
            (quick-markup s true ended (60 ∷ 47 ∷ text) (2 + n) (omega arith) (record { after = n; sgml = refl; tag = quick-lone s true text n h; adds = refl })));
      };
      parts = ap (λ (k : ℕ). parts_of_tag s (take k (60 ∷ 47 ∷ text))) (two-more n)
          ∙ ap (λ (xs : List ℕ). parts_of_tag s (60 ∷ 47 ∷ xs)) (lone-taken h)
          ∙ ap (λ (t : Bool). if t then [] else parts_of s true 2 (60 ∷ 47 ∷ tag)) (no-tagc s h.name (62 ∷ []) h.stands)
          ∙ lone-parts s true 2 (60 ∷ 47 ∷ []) h.name refl (name-all s h.name h.stands)
          ∙ ap (λ (to : ℕ). part_at 2 to ∷ []) (let e = h.size in omega (arith, e));
      some = let e = h.size in let some = some-length s h.name h.stands in omega (arith, e, some);
      closed = ap (λ (k : ℕ). last_byte (take k (60 ∷ 47 ∷ text))) (two-more n) ∙ ap (λ (xs : List ℕ). last_byte (60 ∷ 47 ∷ xs)) (lone-taken h) ∙ last-is (60 ∷ 47 ∷ h.name) 62;
    }))
  where
    tag : List ℕ
    tag = h.name ++ 62 ∷ []

-- by the bytes at the head of a text
pub start-at : (s : Syntax) (text : List ℕ) (n : ℕ) → 1 ≤ length text → slice_index_or text 0 0 ≡ 60 → BeginsLone s (drop 1 text) n → IsLoneTag s kind.StartTag 1 text (1 + n)
start-at s [] n l is h = absurd (omega (arith, l))
start-at s (b ∷ text) n l is h = start-lone s b text n is h

pub end-at : (s : Syntax) (text : List ℕ) (n : ℕ) → 2 ≤ length text → slice_index_or text 0 0 ≡ 60 → slice_index_or text 1 0 ≡ 47 → BeginsLone s (drop 2 text) n
    → IsLoneTag s kind.EndTag 2 text (2 + n)
end-at s [] n l is slash h = absurd (omega (arith, l))
end-at s (b ∷ []) n l is slash h = absurd (omega (arith, l))
end-at s (b ∷ c ∷ text) n l is slash h = end-lone s b c text n is slash h
