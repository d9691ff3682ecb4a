-- What a wait names follows from the object that it is for.
use Rattle.std.proofs.Common.{◌≡◌, ℕ, eqb-true, true, false, Option, Some, None, refl, sym, ap, ◌∙◌}
use Rattle.ckrt_thread.specs.declared.records.Reason.{Reason}
use Rattle.ckrt_thread.specs.declared.records.Reason.TheVariants as reason
use Rattle.ckrt_thread.specs.declared.records.Object.{Object}
use Rattle.ckrt_thread.specs.declared.records.Object.TheVariants as object
use Rattle.ckrt_thread.specs.Waits.{is_reason_for}
use Rattle.ckrt_thread.specs.Queues.{object_of, is_condition}
use Rattle.ckrt_objects.specs.InUse.{NamesByObject}
use Rattle.ckrt_rwlock.specs.Rows.{lock_of, named}

abbrev lock_of_object : Object → Option ℕ
lock_of_object (object.RwLock a) = Some a
lock_of_object o = None

none_of : (r : Reason) → object_of r ≡ None → lock_of r ≡ None
none_of reason.Sleep e = refl
none_of _ e = absurd (cc)

named_for : (o : Object) (r : Reason) → is_condition o ≡ false → is_reason_for o r ≡ true
    → lock_of r ≡ lock_of_object o
named_for object.Input reason.Input n f = refl
named_for (object.End t) (reason.Join u) n f = refl
named_for (object.Mutex a) (reason.Lock m) n f = refl
named_for (object.Mutex a) (reason.Retake m r) n f = refl
named_for (object.Condition a) (reason.Condition c m) n f = absurd (cc)
named_for (object.Barrier a) (reason.Barrier b) n f = refl
named_for (object.RwLock a) (reason.Read l) n f = ap Some (sym (eqb-true a l f))
named_for (object.RwLock a) (reason.Write l) n f = ap Some (sym (eqb-true a l f))
named_for _ _ n f = absurd (cc)

pub named_by_object : NamesByObject named
named_by_object = record {
  none = λ w e. none_of w.reason e;
  same = λ o v w n f g. named_for o v.reason n f ∙ sym (named_for o w.reason n g);
}
