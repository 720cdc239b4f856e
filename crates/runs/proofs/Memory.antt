-- A row as a part of the memory.
use Rattle.std.proofs.Common.{◌≡◌, ℕ, ◌+◌, ◌-◌, List, take, drop, ap₂, arith}
use borrow.Rule.Slice.PartMut.{put_mid}
use Rattle.runs.specs.declared.call.Row.{Row}
use Rattle.runs.specs.Stands.{begin_of, size_of, row_of, with_row}

module _ (memory : List ℕ) (row : Row) (from end : ℕ) (from_is : from ≡ begin_of memory row) (end_is : end ≡ begin_of memory row + size_of memory row) where
  size_is : end - from ≡ size_of memory row
  size_is = omega arith

  pub bytes_are : take (end - from) (drop from memory) ≡ row_of memory row
  bytes_are = ap₂ (λ n b. take n (drop b memory)) size_is from_is

  pub put_is : (bytes : List ℕ) → put_mid from (end - from) memory bytes ≡ with_row memory row bytes
  put_is bytes = ap₂ (λ b n. put_mid b n memory bytes) from_is size_is
