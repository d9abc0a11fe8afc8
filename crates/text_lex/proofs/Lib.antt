mod ListLaws
mod NumberLaws
