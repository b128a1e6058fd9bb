-- 000's A and B tables, in its order: which fields a word has, and the opcode and the form that it has then. Entries of 000's that have no
-- form (its White, Cyan, Brown and Purple) are left out. Assumes nothing.
use Rattle.std.specs.Prelude.{ℕ, cond, List, [], ◌∷◌, eqb}
use Rattle.std.specs.declared.option.Option.{Option}
use Rattle.std.specs.declared.option.Option.TheVariants.{None, Some}
use Rattle.form.specs.Form.{a, b, no_form}
use Rattle.form.specs.declared.Form.{Form}
use Rattle.table.specs.Entry.{Field, Entry}
use Rattle.opcodes.specs.declared.Named.{Named}
use Rattle.opcodes.specs.declared.Opcode.{Opcode}
use Rattle.opcodes.specs.declared.Opcode.TheVariants.{No, Add, AddPlusOne, SubMinusOne, Sub, Addp4, And, Andcm, Or, Xor, Shladd, Shladdp4, Padd1, Padd1_sss, Padd1_uuu, Padd1_uus, Psub1, Psub1_sss, Psub1_uuu, Psub1_uus, Pavg1, Pavg1_raz, Pavgsub1, Pcmp1_eq, Pcmp1_gt, Padd2, Padd2_sss, Padd2_uuu, Padd2_uus, Psub2, Psub2_sss, Psub2_uuu, Psub2_uus, Pavg2, Pavg2_raz, Pavgsub2, Pshladd2, Pshradd2, Pcmp2_eq, Pcmp2_gt, Padd4, Psub4, Pcmp4_eq, Pcmp4_gt, Adds, Addl, Cmp_lt, Cmp_lt_unc, Cmp_eq_and, Cmp_ne_and, Cmp4_lt, Cmp4_lt_unc, Cmp4_eq_and, Cmp4_ne_and, Cmp_gt_and, Cmp_le_and, Cmp_ge_and, Cmp_lt_and, Cmp4_gt_and, Cmp4_le_and, Cmp4_ge_and, Cmp4_lt_and, Cmp_ltu, Cmp_ltu_unc, Cmp_eq_or, Cmp_ne_or, Cmp4_ltu, Cmp4_ltu_unc, Cmp4_eq_or, Cmp4_ne_or, Cmp_gt_or, Cmp_le_or, Cmp_ge_or, Cmp_lt_or, Cmp4_gt_or, Cmp4_le_or, Cmp4_ge_or, Cmp4_lt_or, Cmp_eq, Cmp_eq_unc, Cmp_eq_or_andcm, Cmp_ne_or_andcm, Cmp4_eq, Cmp4_eq_unc, Cmp4_eq_or_andcm, Cmp4_ne_or_andcm, Cmp_gt_or_andcm, Cmp_le_or_andcm, Cmp_ge_or_andcm, Cmp_lt_or_andcm, Cmp4_gt_or_andcm, Cmp4_le_or_andcm, Cmp4_ge_or_andcm, Cmp4_lt_or_andcm, Break_b, Cover, Clrrb, Clrrb_pr, Rfi, Bsw_0, Bsw_1, Epc, Vmsw_0, Vmsw_1, Br_cond, Br_ia, Br_ret, Br_call, Nop_b, Hint_b, Brp, Brp_ret, Br_wexit, Br_wtop, Br_cloop, Br_cexit, Br_ctop, Brp_ipwh_ih}

-- no opcode and no form
abbrev pub none : Opcode × Form
none = (No, no_form)

-- an opcode and the form's number, as the code hands them on, where there is a form
abbrev pub short : Opcode × Form → Option Named
short n = cond (eqb n.1.number 0) None (Some (record { 0 = n.0; 1 = n.1.number }))

infix 70 ◌is◌
abbrev pub ◌is◌ : List Field → Opcode × Form → Entry (Opcode × Form)
fields is n = (fields, n)

-- the manual's names of the fields
abbrev pub opcode : ℕ → Field
opcode v = (37, 4, v)

abbrev pub x2a : ℕ → Field
x2a v = (34, 2, v)

abbrev pub x2 : ℕ → Field
x2 v = (34, 2, v)

abbrev pub ve : ℕ → Field
ve v = (33, 1, v)

abbrev pub za : ℕ → Field
za v = (36, 1, v)

abbrev pub zb : ℕ → Field
zb v = (33, 1, v)

abbrev pub x4 : ℕ → Field
x4 v = (29, 4, v)

abbrev pub x2b : ℕ → Field
x2b v = (27, 2, v)

abbrev pub tb : ℕ → Field
tb v = (36, 1, v)

abbrev pub ta : ℕ → Field
ta v = (33, 1, v)

abbrev pub c : ℕ → Field
c v = (12, 1, v)

abbrev pub x6 : ℕ → Field
x6 v = (27, 6, v)

abbrev pub btype : ℕ → Field
btype v = (6, 3, v)

-- the heads of 000's tables: 4-9; 4-13 to 4-15, by za and zb; 4-11; 4-10
abbrev pub alu : List Field → List Field
alu fields = opcode 8 ∷ x2a 0 ∷ ve 0 ∷ fields

abbrev pub multimedia : ℕ → ℕ → List Field → List Field
multimedia a b fields = opcode 8 ∷ x2a 1 ∷ za a ∷ zb b ∷ fields

abbrev pub compare_imm : ℕ → ℕ → ℕ → ℕ → List Field
compare_imm major x a k = opcode major ∷ x2 x ∷ ta a ∷ c k ∷ []

abbrev pub compare : ℕ → ℕ → ℕ → ℕ → ℕ → List Field
compare major x b a k = opcode major ∷ x2 x ∷ tb b ∷ ta a ∷ c k ∷ []

-- get_a_opcode_and_encoding
unfoldable pub a_table : List (Entry (Opcode × Form))
a_table =
    alu (x4 0 ∷ x2b 0 ∷ []) is (Add, a 1)
    ∷ alu (x4 0 ∷ x2b 1 ∷ []) is (AddPlusOne, a 1)
    ∷ alu (x4 1 ∷ x2b 0 ∷ []) is (SubMinusOne, a 1)
    ∷ alu (x4 1 ∷ x2b 1 ∷ []) is (Sub, a 1)
    ∷ alu (x4 2 ∷ x2b 0 ∷ []) is (Addp4, a 1)
    ∷ alu (x4 3 ∷ x2b 0 ∷ []) is (And, a 1)
    ∷ alu (x4 3 ∷ x2b 1 ∷ []) is (Andcm, a 1)
    ∷ alu (x4 3 ∷ x2b 2 ∷ []) is (Or, a 1)
    ∷ alu (x4 3 ∷ x2b 3 ∷ []) is (Xor, a 1)
    ∷ alu (x4 4 ∷ []) is (Shladd, a 2)
    ∷ alu (x4 6 ∷ []) is (Shladdp4, a 2)
    ∷ alu (x4 9 ∷ x2b 1 ∷ []) is (Sub, a 3)
    ∷ alu (x4 11 ∷ x2b 0 ∷ []) is (And, a 3)
    ∷ alu (x4 11 ∷ x2b 1 ∷ []) is (Andcm, a 3)
    ∷ alu (x4 11 ∷ x2b 2 ∷ []) is (Or, a 3)
    ∷ alu (x4 11 ∷ x2b 3 ∷ []) is (Xor, a 3)
    ∷ multimedia 0 0 (x4 0 ∷ x2b 0 ∷ []) is (Padd1, a 9)
    ∷ multimedia 0 0 (x4 0 ∷ x2b 1 ∷ []) is (Padd1_sss, a 9)
    ∷ multimedia 0 0 (x4 0 ∷ x2b 2 ∷ []) is (Padd1_uuu, a 9)
    ∷ multimedia 0 0 (x4 0 ∷ x2b 3 ∷ []) is (Padd1_uus, a 9)
    ∷ multimedia 0 0 (x4 1 ∷ x2b 0 ∷ []) is (Psub1, a 9)
    ∷ multimedia 0 0 (x4 1 ∷ x2b 1 ∷ []) is (Psub1_sss, a 9)
    ∷ multimedia 0 0 (x4 1 ∷ x2b 2 ∷ []) is (Psub1_uuu, a 9)
    ∷ multimedia 0 0 (x4 1 ∷ x2b 3 ∷ []) is (Psub1_uus, a 9)
    ∷ multimedia 0 0 (x4 2 ∷ x2b 2 ∷ []) is (Pavg1, a 9)
    ∷ multimedia 0 0 (x4 2 ∷ x2b 3 ∷ []) is (Pavg1_raz, a 9)
    ∷ multimedia 0 0 (x4 3 ∷ x2b 2 ∷ []) is (Pavgsub1, a 9)
    ∷ multimedia 0 0 (x4 9 ∷ x2b 0 ∷ []) is (Pcmp1_eq, a 9)
    ∷ multimedia 0 0 (x4 9 ∷ x2b 1 ∷ []) is (Pcmp1_gt, a 9)
    ∷ multimedia 0 1 (x4 0 ∷ x2b 0 ∷ []) is (Padd2, a 9)
    ∷ multimedia 0 1 (x4 0 ∷ x2b 1 ∷ []) is (Padd2_sss, a 9)
    ∷ multimedia 0 1 (x4 0 ∷ x2b 2 ∷ []) is (Padd2_uuu, a 9)
    ∷ multimedia 0 1 (x4 0 ∷ x2b 3 ∷ []) is (Padd2_uus, a 9)
    ∷ multimedia 0 1 (x4 1 ∷ x2b 0 ∷ []) is (Psub2, a 9)
    ∷ multimedia 0 1 (x4 1 ∷ x2b 1 ∷ []) is (Psub2_sss, a 9)
    ∷ multimedia 0 1 (x4 1 ∷ x2b 2 ∷ []) is (Psub2_uuu, a 9)
    ∷ multimedia 0 1 (x4 1 ∷ x2b 3 ∷ []) is (Psub2_uus, a 9)
    ∷ multimedia 0 1 (x4 2 ∷ x2b 2 ∷ []) is (Pavg2, a 9)
    ∷ multimedia 0 1 (x4 2 ∷ x2b 3 ∷ []) is (Pavg2_raz, a 9)
    ∷ multimedia 0 1 (x4 3 ∷ x2b 2 ∷ []) is (Pavgsub2, a 9)
    ∷ multimedia 0 1 (x4 4 ∷ []) is (Pshladd2, a 10)
    ∷ multimedia 0 1 (x4 6 ∷ []) is (Pshradd2, a 10)
    ∷ multimedia 0 1 (x4 9 ∷ x2b 0 ∷ []) is (Pcmp2_eq, a 9)
    ∷ multimedia 0 1 (x4 9 ∷ x2b 1 ∷ []) is (Pcmp2_gt, a 9)
    ∷ multimedia 1 0 (x4 0 ∷ x2b 0 ∷ []) is (Padd4, a 9)
    ∷ multimedia 1 0 (x4 1 ∷ x2b 0 ∷ []) is (Psub4, a 9)
    ∷ multimedia 1 0 (x4 9 ∷ x2b 0 ∷ []) is (Pcmp4_eq, a 9)
    ∷ multimedia 1 0 (x4 9 ∷ x2b 1 ∷ []) is (Pcmp4_gt, a 9)
    ∷ (opcode 8 ∷ x2a 2 ∷ ve 0 ∷ []) is (Adds, a 4)
    ∷ (opcode 8 ∷ x2a 3 ∷ ve 0 ∷ []) is (Addp4, a 4)
    ∷ (opcode 9 ∷ []) is (Addl, a 5)
    ∷ compare_imm 12 2 0 0 is (Cmp_lt, a 8)
    ∷ compare_imm 12 2 0 1 is (Cmp_lt_unc, a 8)
    ∷ compare_imm 12 2 1 0 is (Cmp_eq_and, a 8)
    ∷ compare_imm 12 2 1 1 is (Cmp_ne_and, a 8)
    ∷ compare_imm 12 3 0 0 is (Cmp4_lt, a 8)
    ∷ compare_imm 12 3 0 1 is (Cmp4_lt_unc, a 8)
    ∷ compare_imm 12 3 1 0 is (Cmp4_eq_and, a 8)
    ∷ compare_imm 12 3 1 1 is (Cmp4_ne_and, a 8)
    ∷ compare 12 0 0 0 0 is (Cmp_lt, a 6)
    ∷ compare 12 0 0 0 1 is (Cmp_lt_unc, a 6)
    ∷ compare 12 0 0 1 0 is (Cmp_eq_and, a 6)
    ∷ compare 12 0 0 1 1 is (Cmp_ne_and, a 6)
    ∷ compare 12 0 1 0 0 is (Cmp_gt_and, a 7)
    ∷ compare 12 0 1 0 1 is (Cmp_le_and, a 7)
    ∷ compare 12 0 1 1 0 is (Cmp_ge_and, a 7)
    ∷ compare 12 0 1 1 1 is (Cmp_lt_and, a 7)
    ∷ compare 12 1 0 0 0 is (Cmp4_lt, a 6)
    ∷ compare 12 1 0 0 1 is (Cmp4_lt_unc, a 6)
    ∷ compare 12 1 0 1 0 is (Cmp4_eq_and, a 6)
    ∷ compare 12 1 0 1 1 is (Cmp4_ne_and, a 6)
    ∷ compare 12 1 1 0 0 is (Cmp4_gt_and, a 7)
    ∷ compare 12 1 1 0 1 is (Cmp4_le_and, a 7)
    ∷ compare 12 1 1 1 0 is (Cmp4_ge_and, a 7)
    ∷ compare 12 1 1 1 1 is (Cmp4_lt_and, a 7)
    ∷ compare_imm 13 2 0 0 is (Cmp_ltu, a 8)
    ∷ compare_imm 13 2 0 1 is (Cmp_ltu_unc, a 8)
    ∷ compare_imm 13 2 1 0 is (Cmp_eq_or, a 8)
    ∷ compare_imm 13 2 1 1 is (Cmp_ne_or, a 8)
    ∷ compare_imm 13 3 0 0 is (Cmp4_ltu, a 8)
    ∷ compare_imm 13 3 0 1 is (Cmp4_ltu_unc, a 8)
    ∷ compare_imm 13 3 1 0 is (Cmp4_eq_or, a 8)
    ∷ compare_imm 13 3 1 1 is (Cmp4_ne_or, a 8)
    ∷ compare 13 0 0 0 0 is (Cmp_ltu, a 6)
    ∷ compare 13 0 0 0 1 is (Cmp_ltu_unc, a 6)
    ∷ compare 13 0 0 1 0 is (Cmp_eq_or, a 6)
    ∷ compare 13 0 0 1 1 is (Cmp_ne_or, a 6)
    ∷ compare 13 0 1 0 0 is (Cmp_gt_or, a 7)
    ∷ compare 13 0 1 0 1 is (Cmp_le_or, a 7)
    ∷ compare 13 0 1 1 0 is (Cmp_ge_or, a 7)
    ∷ compare 13 0 1 1 1 is (Cmp_lt_or, a 7)
    ∷ compare 13 1 0 0 0 is (Cmp4_ltu, a 6)
    ∷ compare 13 1 0 0 1 is (Cmp4_ltu_unc, a 6)
    ∷ compare 13 1 0 1 0 is (Cmp4_eq_or, a 6)
    ∷ compare 13 1 0 1 1 is (Cmp4_ne_or, a 6)
    ∷ compare 13 1 1 0 0 is (Cmp4_gt_or, a 7)
    ∷ compare 13 1 1 0 1 is (Cmp4_le_or, a 7)
    ∷ compare 13 1 1 1 0 is (Cmp4_ge_or, a 7)
    ∷ compare 13 1 1 1 1 is (Cmp4_lt_or, a 7)
    ∷ compare_imm 14 2 0 0 is (Cmp_eq, a 8)
    ∷ compare_imm 14 2 0 1 is (Cmp_eq_unc, a 8)
    ∷ compare_imm 14 2 1 0 is (Cmp_eq_or_andcm, a 8)
    ∷ compare_imm 14 2 1 1 is (Cmp_ne_or_andcm, a 8)
    ∷ compare_imm 14 3 0 0 is (Cmp4_eq, a 8)
    ∷ compare_imm 14 3 0 1 is (Cmp4_eq_unc, a 8)
    ∷ compare_imm 14 3 1 0 is (Cmp4_eq_or_andcm, a 8)
    ∷ compare_imm 14 3 1 1 is (Cmp4_ne_or_andcm, a 8)
    ∷ compare 14 0 0 0 0 is (Cmp_eq, a 6)
    ∷ compare 14 0 0 0 1 is (Cmp_eq_unc, a 6)
    ∷ compare 14 0 0 1 0 is (Cmp_eq_or_andcm, a 6)
    ∷ compare 14 0 0 1 1 is (Cmp_ne_or_andcm, a 6)
    ∷ compare 14 0 1 0 0 is (Cmp_gt_or_andcm, a 7)
    ∷ compare 14 0 1 0 1 is (Cmp_le_or_andcm, a 7)
    ∷ compare 14 0 1 1 0 is (Cmp_ge_or_andcm, a 7)
    ∷ compare 14 0 1 1 1 is (Cmp_lt_or_andcm, a 7)
    ∷ compare 14 1 0 0 0 is (Cmp4_eq, a 6)
    ∷ compare 14 1 0 0 1 is (Cmp4_eq_unc, a 6)
    ∷ compare 14 1 0 1 0 is (Cmp4_eq_or_andcm, a 6)
    ∷ compare 14 1 0 1 1 is (Cmp4_ne_or_andcm, a 6)
    ∷ compare 14 1 1 0 0 is (Cmp4_gt_or_andcm, a 7)
    ∷ compare 14 1 1 0 1 is (Cmp4_le_or_andcm, a 7)
    ∷ compare 14 1 1 1 0 is (Cmp4_ge_or_andcm, a 7)
    ∷ compare 14 1 1 1 1 is (Cmp4_lt_or_andcm, a 7)
    ∷ []

-- get_b_opcode_and_encoding
unfoldable pub b_table : List (Entry (Opcode × Form))
b_table =
    (opcode 0 ∷ x6 0 ∷ []) is (Break_b, b 9)
    ∷ (opcode 0 ∷ x6 2 ∷ []) is (Cover, b 8)
    ∷ (opcode 0 ∷ x6 4 ∷ []) is (Clrrb, b 8)
    ∷ (opcode 0 ∷ x6 5 ∷ []) is (Clrrb_pr, b 8)
    ∷ (opcode 0 ∷ x6 8 ∷ []) is (Rfi, b 8)
    ∷ (opcode 0 ∷ x6 12 ∷ []) is (Bsw_0, b 8)
    ∷ (opcode 0 ∷ x6 13 ∷ []) is (Bsw_1, b 8)
    ∷ (opcode 0 ∷ x6 16 ∷ []) is (Epc, b 8)
    ∷ (opcode 0 ∷ x6 24 ∷ []) is (Vmsw_0, b 8)
    ∷ (opcode 0 ∷ x6 25 ∷ []) is (Vmsw_1, b 8)
    ∷ (opcode 0 ∷ x6 32 ∷ btype 0 ∷ []) is (Br_cond, b 4)
    ∷ (opcode 0 ∷ x6 32 ∷ btype 1 ∷ []) is (Br_ia, b 4)
    ∷ (opcode 0 ∷ x6 33 ∷ btype 4 ∷ []) is (Br_ret, b 4)
    ∷ (opcode 1 ∷ []) is (Br_call, b 5)
    ∷ (opcode 2 ∷ x6 0 ∷ []) is (Nop_b, b 9)
    ∷ (opcode 2 ∷ x6 1 ∷ []) is (Hint_b, b 9)
    ∷ (opcode 2 ∷ x6 16 ∷ []) is (Brp, b 7)
    ∷ (opcode 2 ∷ x6 17 ∷ []) is (Brp_ret, b 7)
    ∷ (opcode 4 ∷ btype 0 ∷ []) is (Br_cond, b 1)
    ∷ (opcode 4 ∷ btype 2 ∷ []) is (Br_wexit, b 1)
    ∷ (opcode 4 ∷ btype 3 ∷ []) is (Br_wtop, b 1)
    ∷ (opcode 4 ∷ btype 5 ∷ []) is (Br_cloop, b 2)
    ∷ (opcode 4 ∷ btype 6 ∷ []) is (Br_cexit, b 2)
    ∷ (opcode 4 ∷ btype 7 ∷ []) is (Br_ctop, b 2)
    ∷ (opcode 5 ∷ []) is (Br_call, b 3)
    ∷ (opcode 7 ∷ []) is (Brp_ipwh_ih, b 6)
    ∷ []
