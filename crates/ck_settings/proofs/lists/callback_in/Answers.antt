use Rattle.std.proofs.Common.{◌≡◌, ℕ, Bool, true, not, List, ◌++◌, codes, map, Ok, Err, refl, sym, ap, ◌∙◌}
use Rattle.std.specs.List.{list_any}
use Rattle.toml.specs.Data.{Members}
use Rattle.toml.specs.View.{table_view}
use Rattle.ck_base.specs.declared.settings_faults.SettingsKind.{SettingsKind}
use Rattle.ck_base.specs.declared.settings_faults.SettingsKind.TheVariants.{Repeated}
use Rattle.ck_settings.specs.declared.errors.ReadSettingsError.{ReadSettingsError}
use Rattle.ck_settings.specs.declared.errors.ReadSettingsError.TheVariants as errors
use Rattle.ck_settings.specs.Keys.{callback_list}
use Rattle.ck_settings.specs.Places.{prefix_of}
use Rattle.ck_settings.specs.Values.{Callback, callback_view}
use Rattle.ck_settings.specs.Faults.{is_some_text}
use Rattle.ck_settings.specs.Documents.{IsFault, Fails}
use Rattle.ck_settings.specs.Reading.{callback, number, text_where, require, has_member, locked_read, fields_of, only}
use Rattle.ck_settings.proofs.Repeated.{list_any_map}
use Rattle.ck_settings.proofs.lists.callback_in.Goals as goal

-- after all keys are read, the callback is repeated or it is the answer
module _ (locked : Bool) (kernel : ℕ) (prefix : List ℕ) (before : List Callback) (ms : Members) where
  all_read : (x : Callback) → only prefix (fields_of (callback_list locked)) ms ≡ Ok (tt {0}) →
      text_where is_some_text prefix (codes "struct") ms ≡ Ok x.of_struct →
      text_where is_some_text prefix (codes "member") ms ≡ Ok x.member →
      number prefix kernel 255 (codes "priority") ms ≡ Ok x.priority → locked_read locked prefix ms ≡ Ok x.locked →
      callback locked kernel prefix before ms ≡ require (prefix ++ codes "member") Repeated
      (not (list_any (has_member x.of_struct x.member) before)) x
  unfolding callback
  all_read x keys of_struct member priority is_locked = rw (keys, of_struct, member, priority, is_locked) refl

fails : (e : ReadSettingsError) (key : List ℕ) (kind : SettingsKind) (b : Bool) (x : Callback) → b ≡ true →
    IsFault e (record { key = key; kind = kind }) →
    Fails e (require key kind (not b) x)
fails errors.Memory key kind b x same fault = tt
fails (errors.Fault f) key kind b x same fault = rw same (ap Err fault)

pub returns-then-has_member : goal.returns-then-has_member
returns-then-has_member c =
    let prefix = prefix_of c.args.section.now.place in
    let before = map callback_view c.args.before.now in
    let x : Callback = record {
      of_struct = c.in_ok-of_struct.of_struct.now;
      member = c.in_ok-member.member.now;
      priority = c.in_ok-priority.priority;
      locked = c.in_ok-locked.locked;
    } in
    let again = list_any_map (has_member x.of_struct x.member) callback_view c.args.before.now ∙ sym
    c.has_member.ensures ∙ c.if-has_member.true in
    let read = all_read c.args.has_locked c.args.kernel_priority prefix before (table_view c.args.section.now.table.now)
    x
    c.in_ok-only_callback_keys.ensures c.in_ok-of_struct.ensures c.in_ok-member.ensures c.in_ok-priority.ensures
    c.in_ok-locked.ensures in
    rw read (fails c.fault.result (prefix ++ codes "member") Repeated
    (list_any (has_member x.of_struct x.member) before) x again c.fault.ensures)

pub returns : goal.returns
returns c =
    let prefix = prefix_of c.args.section.now.place in
    let before = map callback_view c.args.before.now in
    let x : Callback = record {
      of_struct = c.in_ok-of_struct.of_struct.now;
      member = c.in_ok-member.member.now;
      priority = c.in_ok-priority.priority;
      locked = c.in_ok-locked.locked;
    } in
    let new = list_any_map (has_member x.of_struct x.member) callback_view c.args.before.now ∙ sym c.has_member.ensures
    ∙ c.if-has_member.false in
    let read = all_read c.args.has_locked c.args.kernel_priority prefix before (table_view c.args.section.now.table.now)
    x
    c.in_ok-only_callback_keys.ensures c.in_ok-of_struct.ensures c.in_ok-member.ensures c.in_ok-priority.ensures
    c.in_ok-locked.ensures in
    let of_struct = c.in_ok-of_struct-2.ensures.ok in
    let member = c.in_ok-member-2.ensures.ok in
    rw (read, new, of_struct, member) refl
