-- The words (hashes of 32 bits) by which an index finds names. The contracts need only that equal names have equal words.
use Rattle.std.specs.Prelude.{ℕ, ◌*◌, ◌/◌, ◌%◌, ◌^◌, List, [], ◌∷◌, length, drop, Option, Some, None, bit_or, bit_xor, nat_lt, if◌then◌else◌}
use Rattle.std.specs.Int.{from_le_bytes, w64}
use Rattle.std.specs.Simd.{first_chunks}
use Rattle.gitconf_text.specs.Bytes.{fold}
use Rattle.gitconf_sections.specs.declared.word.Mixing.{Mixing}

-- a state with one more group of bytes: the two halves of a 128-bit product, combined by exclusive or
unfoldable pub mixed : (state group : ℕ) → ℕ
mixed state group =
    let product : ℕ = bit_xor state group * 0x9e37_79b9_7f4a_7c15 in
    bit_xor (product % 2 ^ 64) (product / 2 ^ 64)

-- a state before the first byte of a name
abbrev pub nothing_behind : (state : ℕ) → Mixing
nothing_behind state = record { state = state; group = 1 }

-- one more byte of a name: seven of them are a group, after a 1, so that shorter groups are other numbers
unfoldable pub with_byte : Mixing → ℕ → Mixing
with_byte m byte =
    let group : ℕ = bit_or ((m.group * 2 ^ 8) % 2 ^ 64) byte in
    if nat_lt group (2 ^ 56) then record { state = m.state; group = group } else nothing_behind (mixed m.state group)

-- all bytes of a name, one by one
abbrev pub with_bytes : Mixing → List ℕ → Mixing
with_bytes m [] = m
with_bytes m (b ∷ bs) = with_bytes (with_byte m b) bs

-- the state of everything so far, with the last group, which is not full
abbrev pub whole_state : Mixing → ℕ
whole_state m = mixed m.state m.group

-- the state after a name, without ASCII case
unfoldable pub name_state : (seed : ℕ) → List ℕ → ℕ
name_state seed name = whole_state (with_bytes (nothing_behind seed) (fold name))

-- more groups of eight bytes
abbrev pub mixed_all : (state : ℕ) → List (List ℕ) → ℕ
mixed_all state [] = state
mixed_all state (eight ∷ eights) = mixed_all (mixed state (from_le_bytes w64 eight)) eights

-- fewer than eight bytes after a group
abbrev pub group_with : (group : ℕ) → List ℕ → ℕ
group_with group [] = group
group_with group (b ∷ bs) = group_with (bit_or ((group * 2 ^ 8) % 2 ^ 64) b) bs

-- the state after a text: its bytes by eights, and then what is left, after a 1
unfoldable pub text_state : (state : ℕ) → List ℕ → ℕ
text_state state text = mixed (mixed_all state (first_chunks 8 (length text / 8) text)) (group_with 1 (drop (length text / 8 * 8) text))

-- the state after a name and a subsection, from that after the name
abbrev pub full_state : (state : ℕ) → Option (List ℕ) → ℕ
full_state state None = state
full_state state (Some bytes) = text_state state bytes

-- the word of a state: its upper half, after it is mixed once more
abbrev pub word_of : (state : ℕ) → ℕ
word_of state = mixed state 0 / 2 ^ 32

-- the word of a name
abbrev pub name_word : (seed : ℕ) → List ℕ → ℕ
name_word seed name = word_of (name_state seed name)

-- the word of a name and subsection
abbrev pub full_word : (seed : ℕ) → List ℕ → Option (List ℕ) → ℕ
full_word seed name subsection = word_of (full_state (name_state seed name) subsection)
