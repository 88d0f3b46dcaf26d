use Rattle.std.proofs.Common.{◌≡◌, [], None, true, length}
use Rattle.sgml_decl_forms.specs.Groups.{more_members}
use Rattle.sgml_decl_forms.proofs.groups.members.Given as goal

abbrev pub invariant-members : goal.invariant-members
invariant-members l =
    more_members l.fn.tokens l.names.items l.connector l.due l.rest ≡ more_members l.fn.tokens [] None true l.fn.lexemes

abbrev pub decreases-members : goal.decreases-members
decreases-members l = length l.rest
