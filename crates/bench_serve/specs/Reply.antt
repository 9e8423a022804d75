-- WHAT THE PROGRAM WRITES for what it read, whatever the input is of which that is all, or as much as the buffer takes.
use Rattle.std.specs.Prelude.{ℕ, ◌≤◌, ◌≡◌, false, List, length, take, Ok, Err}
use Rattle.law.specs.Limit.{particles}
use Rattle.law.specs.Number.{number}
use Rattle.law.specs.declared.refusal.Refusal.{Refusal}
use Rattle.law.specs.declared.refusal.Refusal.TheVariants.{BadText}
use Rattle.law.specs.Put.{Written}
use Rattle.bench_text.specs.Text.{described}
use Rattle.bench_text.specs.Buffer.{Buffered, ReadFrom}
use Rattle.bench_text.proofs.Buffers.{decides}
use Rattle.bench_print.specs.Lines.{refused_text, lines_room}
use Rattle.bench_answer.specs.Answer.{answer_of}
use Rattle.bench_answer.specs.Answering.{left, Answers}
use Rattle.bench_answer.proofs.Printed.{to_print, printed}

-- r bytes at the front of `new` are the whole output. The last two fields are what `&new[..r]` asks
pub record Replies (n : ℕ) (buffer old new : List ℕ) (r : ℕ) : Type 0 where
  pub whole : (input : List ℕ) → ReadFrom input n buffer → Written (answer_of input) old new r
  pub within : r ≤ length new
  pub taken : r ≡ length (take r new)

-- 9 for whatever is not as described
nine : (s : List ℕ) → described s ≡ false → answer_of s ≡ refused_text (number BadText)
unfolding answer_of
nine s h = rw h

module _ (n : ℕ) (buffer old mid : List ℕ) (b : Buffered n buffer) (room : lines_room particles ≤ length old) where
  -- the n bytes have the input's answer
  own : (input : List ℕ) → ReadFrom input n buffer → answer_of (take n buffer) ≡ answer_of input
  own = decides n buffer b answer_of (refused_text (number BadText)) nine

  replies : (new : List ℕ) (q : ℕ) → Written (answer_of (take n buffer)) old new q → Replies n buffer old new q
  replies new q w = record { whole = λ input from. rw (own input from) at w; within = w.within; taken = w.taken }

  pub line_written : (k : Refusal) → Answers (take n buffer) old (left (Err k) mid) → (new : List ℕ) (q : ℕ) → Written (refused_text (number k)) mid new q
      → Replies n buffer old new q
  line_written k is new q w = let t = to_print (take n buffer) old room mid k is in replies new q (rw t.1 (rw t.0 at w))

  pub lines_written : (k : ℕ) → Answers (take n buffer) old (left (Ok k) mid) → Replies n buffer old mid k
  lines_written k is = replies mid k (printed (take n buffer) old room mid k is)
