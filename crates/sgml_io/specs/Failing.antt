-- Which calls of a store or a sink for tests fail. (profile)
use Rattle.std.specs.Prelude.{ℕ, ◌+◌, ◌-◌, ◌^◌, ◌==◌, ◌||◌, ◌&&◌, Bool, List, length, min, nat_le, nat_lt}
use Rattle.std.specs.List.{list_any}
use Rattle.sgml_io.specs.declared.memory_sink.MemorySink.{MemorySink}

-- the number of the next call, which stands still at the end of its counter
abbrev pub next_call : ℕ → ℕ
next_call calls = min (calls + 1) (2 ^ 64 - 1)

-- whether the list has the number of this call
abbrev pub is_listed : List ℕ → ℕ → Bool
is_listed failing call = list_any (λ n. n == call) failing

-- whether a sink has no room for any more bytes
abbrev pub is_full : MemorySink → Bool
is_full sink = nat_le sink.room (length sink.bytes.items)

-- whether the next write, of these bytes, fails: its call is listed, or the sink is full and there is a byte
-- to take
abbrev pub write_fails : MemorySink → List ℕ → Bool
write_fails sink bytes =
    is_listed sink.failing.items (next_call sink.calls) || (is_full sink && nat_lt 0 (length bytes))
