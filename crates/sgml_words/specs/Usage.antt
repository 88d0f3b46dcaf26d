-- The line of the log where the words are no command, or ask for what isn't built (profile).
use Rattle.std.specs.Prelude.{ℕ, List, codes}

abbrev pub usage_line : List ℕ
usage_line =
    codes "usage: sgmlesis [--mode esis|full|check|lines|selfcheck] [--catalog F] [--piece N] [--expand N] FILE\n"
