mod RowLaws
mod JoinLaws
mod AncestorLaws
mod MakeLaws
mod ClassLaws
mod FieldLaws
mod MethodLaws
mod LineLaws
