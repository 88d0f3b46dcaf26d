-- What a character is where it stands: data, a record end or start, or a separator that is ignored (7.6, 7.6.1).
use Rattle.std.specs.Prelude.{◌≡◌, ℕ, ◌<◌, ◌≤◌, ◌==◌, ◌||◌, Bool, true, false, Option, Some, None, length, slice_index_or, reverse, if◌then◌else◌}
use Rattle.std.specs.List.{prefix_len}
use Rattle.sgml_text.specs.Characters.{is_separator}
use Rattle.sgml_inside.specs.records.Facts.{takes_end}
use Rattle.sgml_marked.specs.declared.status.Status.{Status}
use Rattle.sgml_infer.specs.sgml_dtd.Doctypes.{Doctype}
use Rattle.sgml_infer.specs.theory_reading.Names.{Text}
use Rattle.sgml_infer.specs.theory_reading.Types.{content_of}
use Rattle.sgml_infer.specs.theory_reading.Pieces.{Kind, Char, Re, Rs, Sep}
use Rattle.sgml_infer.specs.theory_reading.State.{State}
use Rattle.sgml_infer.specs.theory_reading.Characters.{has_text, content_has_text, level_has_text, is_text_status, in_text_section}
use Rattle.sgml_infer.specs.Tables.{type_at}
use Rattle.sgml_inside.specs.Inside.{facts_of}
use Rattle.sgml_content_steps.specs.Content.{Content, context_of}
use Rattle.sgml_content_data.specs.declared.around.Around.{Around}
use Rattle.sgml_content_data.specs.declared.role.Role.{Role}
use Rattle.sgml_content_data.specs.declared.role.Role.TheVariants as role
use Rattle.sgml_content_data.specs.declared.front.Front.{Front}

-- WHAT IS AROUND a separator, in a state and in what a parser keeps
abbrev pub around_in : State → Around
around_in s = record { text = has_text s; section = in_text_section s.sections }

abbrev pub around_of : Content → Around
around_of c = record { text = level_has_text c.kept.doctype (context_of c).levels; section = in_text_section (reverse c.kept.sections) }

-- an element type has #PCDATA in its content; outside all elements there is none
abbrev pub text_of : Doctype → Option ℕ → Bool
text_of d None = false
text_of d (Some i) = content_has_text (content_of (type_at d i))

-- the innermost marked section is one of characters (10.4.2)
abbrev pub is_text_in : Option Status → Bool
is_text_in None = false
is_text_in (Some st) = is_text_status st

-- where there is #PCDATA, and no marked section of characters
abbrev pub in_text : Around
in_text = record { text = true; section = false }

-- WHAT A SEPARATOR IS there: without #PCDATA it is ignored, but for data in a marked section of characters
abbrev pub role_of_separator : Around → ℕ → Role
role_of_separator a b =
    if b == 13 then (if a.text then role.RecordEnd else role.Ignored)
    else (if b == 10 then (if a.text then role.RecordStart else role.Ignored)
    else (if a.text || a.section then role.Data else role.Ignored))

-- any other character is data
abbrev pub role_of_character : Around → ℕ → Role
role_of_character a b = if is_separator b then role_of_separator a b else role.Data

-- the piece that it is; of a record end, whether it is live
abbrev pub kind_by : Role → Bool → ℕ → Kind
kind_by role.Data live b = Char b
kind_by role.RecordEnd live b = Re live
kind_by role.RecordStart live b = Rs
kind_by role.Ignored live b = Sep b

-- of a separator that stands there
abbrev pub separator_of : Content → ℕ → Kind
separator_of c b = kind_by (role_of_separator (around_of c) b) (takes_end (facts_of c.inside.elements)) b

abbrev pub is_data : Role → Bool
is_data role.Data = true
is_data _ = false

abbrev pub is_ignored : Role → Bool
is_ignored role.Ignored = true
is_ignored _ = false

-- OF A STRETCH the characters at its front that are data, or that are ignored
abbrev pub is_data_there : Around → ℕ → Bool
is_data_there a b = is_data (role_of_character a b)

abbrev pub is_ignored_there : Around → ℕ → Bool
is_ignored_there a b = is_ignored (role_of_character a b)

abbrev pub front_length : Around → Role → Text → ℕ
front_length a role.Data bytes = prefix_len (is_data_there a) bytes
front_length a role.Ignored bytes = prefix_len (is_ignored_there a) bytes
front_length a _ bytes = 1

pub record IsFront (a : Around) (bytes : Text) (f : Front) : Type 0 where
  pub byte : f.byte ≡ slice_index_or bytes 0 0
  pub role : f.role ≡ role_of_character a f.byte
  pub count : f.length ≡ front_length a f.role bytes
  pub some : 0 < f.length
  pub within : f.length ≤ length bytes
