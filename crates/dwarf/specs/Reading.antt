-- The reading of encoded operations. It knows the byte order and the unit's encoding, and nothing of what wrote the bytes.
use Rattle.std.specs.Prelude.{◌≡◌, ℕ, zero, suc, ◌<◌, Bool, cond, List, [], ◌∷◌, length, Some, None, Option}
use Rattle.common.specs.declared.encoding.Encoding.{Encoding}
use Rattle.dwarf.specs.Reader.{Got, and_then, read_data}
use Rattle.dwarf.specs.Leb.{read_uleb, read_sleb}
use Rattle.dwarf.specs.Fixed.{is_width, read_fixed, signed_of}
use Rattle.dwarf.specs.Tokens.{Tokens, done, code, unsigned, signed, fixed, displacement, block, short, nested}
use Rattle.dwarf.specs.Codes.{Kind, unsigned_number, signed_number, number_of, branch_displacement, counted_data, short_data, nested_operations, operands}

-- data behind its length in unsigned LEB128
unfoldable pub read_counted : List ℕ → Option (Got (List ℕ))
read_counted bytes = and_then (read_uleb bytes) (λ g. read_data g.value g.rest)

-- data behind its length in one byte
unfoldable pub read_short : List ℕ → Option (Got (List ℕ))
read_short [] = None
read_short (count ∷ bytes) = read_data count bytes

-- the reading in at most so many steps, where the last code still wants operands of these kinds: it ends with the bytes, once none is wanted
unfoldable pub reading : ℕ → Bool → Encoding → List Kind → List ℕ → Option Tokens
reading zero big e kinds bytes = None
reading (suc steps) big e [] [] = Some done
reading (suc steps) big e [] (c ∷ bytes) =
    and_then (operands e c) (λ kinds. and_then (reading steps big e kinds bytes) (λ ts. Some (code c ts)))
reading (suc steps) big e (unsigned_number ∷ kinds) bytes =
    and_then (read_uleb bytes) (λ g. and_then (reading steps big e kinds g.rest) (λ ts. Some (unsigned g.value ts)))
reading (suc steps) big e (signed_number ∷ kinds) bytes =
    and_then (read_sleb bytes) (λ g. and_then (reading steps big e kinds g.rest) (λ ts. Some (signed g.value ts)))
reading (suc steps) big e (number_of width ∷ kinds) bytes =
    cond (is_width width)
    (and_then (read_fixed big width bytes) (λ g. and_then (reading steps big e kinds g.rest) (λ ts. Some (fixed width g.value ts)))) None
reading (suc steps) big e (branch_displacement ∷ kinds) bytes =
    and_then (read_fixed big 2 bytes) (λ g. and_then (reading steps big e kinds g.rest) (λ ts. Some (displacement (signed_of 2 g.value) ts)))
reading (suc steps) big e (counted_data ∷ kinds) bytes =
    and_then (read_counted bytes) (λ g. and_then (reading steps big e kinds g.rest) (λ ts. Some (block g.value ts)))
reading (suc steps) big e (short_data ∷ kinds) bytes =
    and_then (read_short bytes) (λ g. and_then (reading steps big e kinds g.rest) (λ ts. Some (short g.value ts)))
reading (suc steps) big e (nested_operations ∷ kinds) bytes =
    and_then (read_counted bytes) (λ g. and_then (reading steps big e [] g.value)
    (λ inner. and_then (reading steps big e kinds g.rest) (λ ts. Some (nested inner ts))))

-- the operations that the bytes are: each step but the last takes a byte at least
unfoldable pub read : Bool → Encoding → List ℕ → Option Tokens
read big e bytes = reading (suc (length bytes)) big e [] bytes

-- more steps change nothing: no reading is missing for want of steps
abbrev pub StepsSuffice : Type 0
StepsSuffice = (big : Bool) (e : Encoding) (bytes : List ℕ) (steps : ℕ) → length bytes < steps → reading steps big e [] bytes ≡ read big e bytes
