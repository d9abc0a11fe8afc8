-- The laws that a service must satisfy for its machine to be serializable: what a message may do, what it sees, and that messages
-- which do not clash neither see nor disturb each other.
use Rattle.std.specs.Prelude.{ℕ, ◌≡◌, true, false, ◌||◌}
use Rattle.std.proofs.Math.Option.{some}
use Rattle.model.specs.Service.{goes, ends, Service}

module _ (𝓢 : Service) where
  open 𝓢 use {Fields, Message, Run, Effect, Undo, Locks, begun, turn, act, clean, noted, put_back, unlocked, lock, clash, meets, holds, alone}

  -- The message m, run alone on the fields F, reaches the run r and the fields G in some number of steps.
  pub data Part (m : Message) (F : Fields) : Run → Fields → Type 0 where
    start : Part m F (begun m) F
    more : {r : Run} {G : Fields} (r' : Run) (e : Effect) → Part m F r G → turn r G ≡ goes r' e → Part m F r' (act e G)

  -- The messages do not clash.
  abbrev pub Free : Message → Message → Type 0
  Free m m' = meets m m' ≡ false

  -- The relations that the laws are about, and the laws.
  pub record Laws : Type 1 where
    -- fields that can occur
    pub Ok : Fields → Type 0
    -- the run is one of the message
    pub Of : Message → Run → Type 0
    -- the message may have the effect
    pub May : Message → Effect → Type 0
    -- the two agree wherever the message may read
    pub Agree : Message → Fields → Fields → Type 0
    -- putting the notes back and the effect do not meet
    pub Aside : Undo → Effect → Type 0
    -- agreement
    pub agree_refl : (m : Message) (F : Fields) → Agree m F F
    pub agree_sym : (m : Message) (F G : Fields) → Agree m F G → Agree m G F
    pub agree_trans : (m : Message) (F G H : Fields) → Agree m F G → Agree m G H → Agree m F H
    pub agree_act : (m : Message) (e : Effect) (F G : Fields) → Agree m F G → Agree m (act e F) (act e G)
    -- runs: a message has its own runs and effects, and a step reads only where the message may
    pub of_begun : (m : Message) → Of m (begun m)
    pub of_turn : (m : Message) (r r' : Run) (e : Effect) (F : Fields) → Ok F → Of m r → turn r F ≡ goes r' e → Of m r'
    pub may_goes : (m : Message) (r r' : Run) (e : Effect) (F : Fields) → Ok F → Of m r → turn r F ≡ goes r' e → May m e
    pub may_ends : (m : Message) (r : Run) (v : ℕ) (e : Effect) (F : Fields) → Ok F → Of m r → turn r F ≡ ends v e → May m e
    pub turn_local : (m : Message) (r : Run) (F G : Fields) → Of m r → Agree m F G → turn r F ≡ turn r G
    pub ok_act : (m : Message) (e : Effect) (F : Fields) → Ok F → May m e → Ok (act e F)
    -- messages that do not clash: their effects commute, and neither sees the other's
    pub free_commute : (m m' : Message) (e e' : Effect) (F : Fields) → Free m m' → May m e → May m' e' → act e (act e' F) ≡ act e' (act e F)
    pub free_agree : (m m' : Message) (e' : Effect) (F : Fields) → Free m m' → May m' e' → Agree m F (act e' F)
    -- locks: clashing is symmetric; a message clashes with the locks of the messages that it clashes with; and a message whose locks
    -- are among some locks clashes with no message that those locks do not clash with
    pub meets_sym : (m m' : Message) → meets m m' ≡ meets m' m
    pub clash_none : (m : Message) → clash m unlocked ≡ false
    pub clash_lock : (m m' : Message) (l : Locks) → clash m (lock m' l) ≡ (meets m m' || clash m l)
    pub holds_meets : (m m' : Message) (l : Locks) → holds m l ≡ true → clash m' l ≡ false → meets m' m ≡ false
    -- undo: the notes put back the former values, and leave alone the effects of messages that do not clash
    pub back_clean : (F : Fields) → put_back clean F ≡ F
    pub back_noted : (m : Message) (u : Undo) (e : Effect) (F : Fields) → Ok F → May m e → put_back (noted u e F) (act e F) ≡ put_back u F
    pub noted_local : (m : Message) (u : Undo) (e : Effect) (F G : Fields) → May m e → Agree m F G → noted u e F ≡ noted u e G
    pub aside_clean : (e : Effect) → Aside clean e
    pub aside_noted : (m m' : Message) (u : Undo) (e e' : Effect) (F : Fields) → Free m m' → May m e → May m' e' → Aside u e' → Aside (noted u e F) e'
    pub aside_back : (u : Undo) (e : Effect) (F : Fields) → Aside u e → put_back u (act e F) ≡ act e (put_back u F)
    -- the course: a run by steps that ends is the run of the send
    pub alone_end : (m : Message) (F G : Fields) (r : Run) (v : ℕ) (e : Effect) → Part m F r G → turn r G ≡ ends v e → alone m F ≡ some (v, act e G)
