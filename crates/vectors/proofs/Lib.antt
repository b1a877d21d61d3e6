mod NumberLaws
mod Words
