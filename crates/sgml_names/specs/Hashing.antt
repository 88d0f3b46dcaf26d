-- Hashes of names.
use Rattle.std.specs.Prelude.{ℕ, List, bit_and}
use Rattle.std.specs.Hash.DefaultHasher as sip
use Rattle.std.specs.Hash.FoldHasher as folding
use Rattle.sgml_names.specs.declared.hashing.Hashing.{Hashing}
use Rattle.sgml_names.specs.declared.hashing.Hashing.TheVariants.{Quick, Strong}

-- 32 bits of std's quick hash
unfoldable pub quick_hash : List ℕ → ℕ
quick_hash name = bit_and (folding.finish (folding.write folding.initial name)) 0xFFFFFFFF

-- 32 bits of SipHash
unfoldable pub strong_hash : List ℕ → ℕ
strong_hash name = bit_and (sip.finish (sip.write sip.initial name)) 0xFFFFFFFF

-- the hash of a name
abbrev pub hash_by : Hashing → List ℕ → ℕ
hash_by Quick name = quick_hash name
hash_by Strong name = strong_hash name
