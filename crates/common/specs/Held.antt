-- The bytes that a short run of bytes holds.
use Rattle.std.specs.Prelude.{ℕ, List, take}
use Rattle.common.specs.declared.bytes.Bytes.{Bytes}

-- those in use
abbrev pub held : {n : ℕ} → Bytes n → List ℕ
held b = take b.len b.bytes
