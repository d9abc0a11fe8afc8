mod TokenLaws
mod KeywordLaws
mod FormLaws
