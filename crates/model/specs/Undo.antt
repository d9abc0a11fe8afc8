-- The undo notes of a transaction (01, "Abort puts back .."; 02, Ticket 6, "Undoing takes back this transaction's additions").
use Rattle.std.specs.Prelude.{ℕ, zero, suc, ◌+◌, ◌-◌, ◌%◌, cond, List, [], ◌∷◌, get_or, ltb}
use Rattle.model.specs.Base.{put}
use Rattle.model.specs.Form.{Change, replace, increase}
use Rattle.model.specs.Message.{Effect, idle, store}

-- The note of one place: the sum that the transaction added to it, 0 at first; or, once it set it, the value that undoing gives.
pub data Note : Type 0 where
  sum_added old_value : ℕ → Note

-- The notes of all places of the fields.
abbrev pub Undo : Type 0
Undo = ℕ → Note

-- The value x with a sum taken back from it, modulo 4,294,967,296.
abbrev pub decreased : ℕ → ℕ → ℕ
decreased x sum = cond (ltb x 4294967296) ((x + (4294967296 - sum % 4294967296)) % 4294967296) x

-- The note of a place whose value x is changed by v. "those before the first set": the first set notes the value right before it less
-- what was added until then; from then on the note stays.
abbrev pub renoted : Change → Note → ℕ → ℕ → Note
renoted replace (sum_added sum) x v = old_value (decreased x sum)
renoted increase (sum_added sum) x v = sum_added ((sum + v) % 4294967296)
renoted how (old_value u) x v = old_value u

-- The undo notes after an effect on the fields.
abbrev pub noted : Undo → Effect → List ℕ → Undo
noted u idle fields = u
noted u (store how k v) fields = put u k (renoted how (u k) (get_or fields k 0) v)

abbrev pub restored : Note → ℕ → ℕ
restored (sum_added sum) v = decreased v sum
restored (old_value u) v = u

-- "puts back, in each field the transaction set, the value before its first set"; "takes back this transaction's additions .. and
-- leaves all others' in the field"
unfoldable pub put_back : Undo → List ℕ → List ℕ
put_back u [] = []
put_back u (v ∷ vs) = restored (u zero) v ∷ put_back (λ k. u (suc k)) vs
